-- The text of an atom is one lexeme.
use Rattle.std.proofs.Common.{◌≡◌, ℕ, ◌+◌, Bool, true, false, ◌&&◌, ◌||◌, not, List, [], ◌∷◌, ◌++◌, length, refl, sym, ap, ◌∙◌, if◌then◌else◌, arith}
use Rattle.std.proofs.lemmas.Bool.{and_parts, and_from, or_left, both_ways}
use Rattle.mw_model.specs.Terms.Object.{Object, Natural, Symbol, Name, is_name}
use Rattle.mw_model.specs.Texts.Lexemes.{Atom, Ends, lexemes_from, is_digit, is_constituent, is_small, is_capital, is_mark, token_form_else, TokenForm, Whole, Point, Bad, token_form, decimal_value}
use Rattle.std.specs.List.{list_all}
use Rattle.mw_model.specs.Texts.Printing.{numeral, is_bare, name_text, is_read_as}
use Rattle.mw_model.proofs.Names.{same_object-eq}
use Rattle.mw_model.proofs.Numerals.{IsNumeral, numeral_is}
use Rattle.mw_model.proofs.Lexing.{Delimits, lexemes_from-token, lexemes_from-bars}

abbrev pub IsAtom : Object → List ℕ → Type 0
IsAtom x t = (o : ℕ) (z : List ℕ) → Delimits Ends z → lexemes_from Ends o 0 (t ++ z) ≡ Atom o x ∷ lexemes_from Ends (o + length t) 0 z

read_as-form : (x : Object) (f : TokenForm) → is_read_as x f ≡ true → f ≡ Whole x
read_as-form x (Whole y) h = ap Whole (same_object-eq y x h)
read_as-form x Point h = cc
read_as-form x Bad h = cc

bare_atom : (s : Name) (n : List ℕ) → s.bytes ≡ n → is_bare s ≡ true → IsAtom (Symbol s) n
bare_atom s [] q h o z d = absurd (both_ways (is_name s.bytes) (ap is_name q) s.valid)
bare_atom s (c ∷ n) q h o z d =
    let a = and_parts (list_all is_constituent s.bytes) (list_all (λ b. not (is_small b)) s.bytes && is_read_as (Symbol s) (token_form s.bytes)) h in
    let b = and_parts (list_all (λ b. not (is_small b)) s.bytes) (is_read_as (Symbol s) (token_form s.bytes)) a.1 in
    lexemes_from-token Ends o c n z (Symbol s) (ap (list_all is_constituent) (sym q) ∙ a.0) (ap token_form (sym q) ∙ read_as-form (Symbol s) (token_form s.bytes) b.1) d

pub name_atom : (s : Name) → IsAtom (Symbol s) (name_text s)
name_atom s = go (is_bare s) refl
  where
    go : (v : Bool) → is_bare s ≡ v → IsAtom (Symbol s) (if v then s.bytes else 124 ∷ (s.bytes ++ 124 ∷ []))
    go true h = bare_atom s s.bytes refl h
    go false h = λ o z d. lexemes_from-bars Ends o s s.bytes z refl d

digits_are_constituents : (t : List ℕ) → list_all is_digit t ≡ true → list_all is_constituent t ≡ true
digits_are_constituents [] h = refl
digits_are_constituents (c ∷ t) h =
    let a = and_parts (is_digit c) (list_all is_digit t) h in
    and_from (is_constituent c) (list_all is_constituent t) (or_left (is_digit c) (is_capital c || (is_small c || is_mark c)) a.0) (digits_are_constituents t a.1)

digits_atom : (m : ℕ) (ds : List ℕ) → IsNumeral m ds → IsAtom (Natural m) ds
digits_atom m [] h o z d = absurd (omega (arith, h.2))
digits_atom m (c ∷ n) h o z d =
    lexemes_from-token Ends o c n z (Natural m) (digits_are_constituents (c ∷ n) h.0)
    (ap (λ v. if v then Whole (Natural (decimal_value (c ∷ n))) else token_form_else (c ∷ n)) h.0 ∙ ap (λ k. Whole (Natural k)) h.1) d

pub natural_atom : (n : ℕ) → IsAtom (Natural n) (numeral n)
natural_atom n = digits_atom n (numeral n) (numeral_is n)
