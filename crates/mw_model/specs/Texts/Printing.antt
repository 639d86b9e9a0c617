-- The text of an object.
use Rattle.std.specs.Prelude.{ℕ, zero, suc, ◌+◌, ◌/◌, ◌%◌, Bool, true, false, ◌&&◌, not, ltb, List, [], ◌∷◌, ◌++◌, if◌then◌else◌}
use Rattle.mw_model.specs.Terms.Object.{Object, Natural, Symbol, Pair, Name, same_object, same_name, nil_name}
use Rattle.mw_model.specs.Texts.Lexemes.{is_constituent, is_small, TokenForm, Whole, token_form}
use Rattle.std.specs.List.{list_all}

-- the decimal digits of n, at most k of them
abbrev pub numeral_from : ℕ → ℕ → List ℕ
numeral_from zero n = []
numeral_from (suc k) n = let more = numeral_from k (n / 10) ++ (48 + n % 10) ∷ [] in if ltb n 10 then (48 + n) ∷ [] else more

abbrev pub numeral : ℕ → List ℕ
numeral n = numeral_from (suc n) n

-- would a bare token of this form be read as x?
abbrev pub is_read_as : Object → TokenForm → Bool
is_read_as x (Whole y) = same_object y x
is_read_as x _ = false

abbrev pub is_bare : Name → Bool
is_bare s = list_all is_constituent s.bytes && (list_all (λ b. not (is_small b)) s.bytes && is_read_as (Symbol s) (token_form s.bytes))

abbrev pub name_text : Name → List ℕ
name_text s = if is_bare s then s.bytes else 124 ∷ (s.bytes ++ 124 ∷ [])

abbrev pub end_text : Bool → List ℕ → List ℕ
end_text true t = 41 ∷ []
end_text false t = 32 ∷ 46 ∷ 32 ∷ (t ++ 41 ∷ [])

abbrev mutual
  pub text_of : Object → List ℕ
  text_of (Natural n) = numeral n
  text_of (Symbol s) = name_text s
  text_of (Pair a d) = 40 ∷ (text_of a ++ tail_text d)

  -- of a list what follows its first member
  pub tail_text : Object → List ℕ
  tail_text (Natural n) = end_text false (numeral n)
  tail_text (Symbol s) = end_text (same_name s nil_name) (name_text s)
  tail_text (Pair a d) = 32 ∷ (text_of a ++ tail_text d)
