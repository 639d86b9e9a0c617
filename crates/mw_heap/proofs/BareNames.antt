-- A name is printed bare where its bytes may stand in a token, and the token is neither like a number nor dots alone.
use Rattle.std.proofs.Common.{◌≡◌, ℕ, Bool, true, false, ◌-◌, ◌&&◌, ◌||◌, not, List, [], ◌∷◌, map, refl, sym, ap, ap₂, ◌∙◌, if◌then◌else◌}
use Rattle.std.specs.List.{list_all}
use Rattle.std.proofs.lemmas.Bool.{and_parts}
use Rattle.mw_model.specs.Terms.Object.{Name, Natural, Symbol, is_name, name_of_bytes, same_bytes, same_name}
use Rattle.mw_model.specs.Texts.Lexemes.{TokenForm, Whole, Point, Bad, decimal_value, is_constituent, is_digit, digit_first, is_sign, is_dot, is_small, like_number, raised, token_form}
use Rattle.mw_model.specs.Texts.Printing.{is_bare, is_read_as}
use Rattle.mw_model.proofs.Names.{same_bytes-eq, same_name-from, bytes-name_of_bytes, name_of_bytes-bytes}

differ : false ≡ true → ⊥
differ h = cc

-- the form of a token by what it is like
abbrev form_by : (digits number point dots : Bool) → ℕ → Name → TokenForm
form_by digits number point dots n w =
    if digits then Whole (Natural n) else if number then Bad else if point then Point else if dots then Bad else Whole (Symbol w)

is_read_as-form_by : (s w : Name) (n : ℕ) (digits number point dots : Bool) → (digits ≡ true → number ≡ true) → (point ≡ true → dots ≡ true) →
    same_name w s ≡ true → is_read_as (Symbol s) (form_by digits number point dots n w) ≡ (not number && not dots)
is_read_as-form_by s w n true true point dots h k e = refl
is_read_as-form_by s w n true false point dots h k e = absurd (differ (h refl))
is_read_as-form_by s w n false true point dots h k e = refl
is_read_as-form_by s w n false false true true h k e = refl
is_read_as-form_by s w n false false true false h k e = absurd (differ (k refl))
is_read_as-form_by s w n false false false true h k e = refl
is_read_as-form_by s w n false false false false h k e = e

abbrev may_be_bare : ℕ → Bool
may_be_bare b = is_constituent b && not (is_small b)

and_both : (a b c d : Bool) → ((a && b) && (c && d)) ≡ ((a && c) && (b && d))
and_both true true c d = refl
and_both true false true d = refl
and_both true false false d = refl
and_both false b c d = refl

list_all-may_be_bare : (t : List ℕ) → list_all may_be_bare t ≡ (list_all is_constituent t && list_all (λ b. not (is_small b)) t)
list_all-may_be_bare [] = refl
list_all-may_be_bare (b ∷ t) =
    ap (λ v. may_be_bare b && v) (list_all-may_be_bare t)
    ∙ and_both (is_constituent b) (not (is_small b)) (list_all is_constituent t) (list_all (λ c. not (is_small c)) t)

raised_same : (b : ℕ) (v : Bool) → is_small b ≡ v → not v ≡ true → raised b ≡ b
raised_same b true q h = absurd (differ h)
raised_same b false q h = ap (λ v. if v then b - 32 else b) q

map-raised : (t : List ℕ) → list_all (λ b. not (is_small b)) t ≡ true → map raised t ≡ t
map-raised [] h = refl
map-raised (b ∷ t) h =
    let a = and_parts (not (is_small b)) (list_all (λ c. not (is_small c)) t) h in
    ap₂ (λ c u. c ∷ u) (raised_same b (is_small b) refl a.0) (map-raised t a.1)

-- of two tests that a token makes, the second follows from the first
digits_number : (t : List ℕ) → is_name t ≡ true → list_all is_digit t ≡ true → like_number t ≡ true
digits_number [] n h = n
digits_number (b ∷ t) n h = ap (λ v. v || (is_sign b && digit_first t)) (and_parts (is_digit b) (list_all is_digit t) h).0

point_dots : (t : List ℕ) → same_bytes t (46 ∷ []) ≡ true → list_all is_dot t ≡ true
point_dots t h = ap (list_all is_dot) (same_bytes-eq t (46 ∷ []) h)

and_assoc : (a b c : Bool) → (a && (b && c)) ≡ ((a && b) && c)
and_assoc true b c = refl
and_assoc false b c = refl

-- tests in another order
and_by : (v a b r o : Bool) → v ≡ (a && b) → (a ≡ true → b ≡ true → r ≡ o) → (a && (b && r)) ≡ (v && o)
and_by v true true r o e f = f refl refl ∙ sym (ap (λ w. w && o) e)
and_by v true false r o e f = sym (ap (λ w. w && o) e)
and_by v false b r o e f = sym (ap (λ w. w && o) e)

is_bare-is : (s : Name) → is_bare s ≡ ((list_all may_be_bare s.bytes && not (like_number s.bytes)) && not (list_all is_dot s.bytes))
is_bare-is s =
    let t = s.bytes in
    and_by (list_all may_be_bare t) (list_all is_constituent t) (list_all (λ b. not (is_small b)) t) (is_read_as (Symbol s) (token_form t))
    (not (like_number t) && not (list_all is_dot t)) (list_all-may_be_bare t)
    (λ h k. is_read_as-form_by s (name_of_bytes (map raised t)) (decimal_value t) (list_all is_digit t) (like_number t) (same_bytes t (46 ∷ [])) (list_all is_dot t)
    (digits_number t s.valid) (point_dots t) (same_name-from (name_of_bytes (map raised t)) s (ap name_of_bytes (map-raised t k) ∙ name_of_bytes-bytes s)))
    ∙ and_assoc (list_all may_be_bare t) (not (like_number t)) (not (list_all is_dot t))

-- the tests that the program makes, in its order
pub bare_tests : (t : List ℕ) → is_name t ≡ true →
    is_bare (name_of_bytes t) ≡ ((list_all may_be_bare t && not (like_number t)) && not (list_all is_dot t))
bare_tests t h =
    let tests : List ℕ → Bool = λ u. (list_all may_be_bare u && not (like_number u)) && not (list_all is_dot u) in
    is_bare-is (name_of_bytes t) ∙ ap tests (bytes-name_of_bytes t h)
