-- Which references are among a list with one more at its end.
use Rattle.std.proofs.Common.{◌≡◌, ℕ, false, nat_eq, List, [], ◌∷◌, ◌++◌, ◌⊎◌, inl, inr, refl, sym, ◌∙◌, eqb-true, eq-eqb}
use Rattle.std.specs.List.{list_any}
use Rattle.std.proofs.lemmas.Bool.{or_cases, or_left, or_right}
use Rattle.std.proofs.lemmas.List.Folds.{list_any-append}
use Rattle.mw_subst.specs.Reached.{IsAmong}

pub among-one : (x r : ℕ) → IsAmong (x ∷ []) r → r ≡ x
among-one x r h = elim (or_cases (nat_eq r x) false h) [ inl e ↦ eqb-true r x e | inr e ↦ cc ]

pub among-itself : (x : ℕ) → IsAmong (x ∷ []) x
among-itself x = or_left (nat_eq x x) false (eq-eqb x x refl)

-- an old one or the new one
pub among-push : (seen : List ℕ) (c r : ℕ) → IsAmong (seen ++ c ∷ []) r → IsAmong seen r ⊎ (r ≡ c)
among-push seen c r h = elim (or_cases (list_any (nat_eq r) seen) (list_any (nat_eq r) (c ∷ [])) (sym (list_any-append (nat_eq r) seen (c ∷ [])) ∙ h)) [ inl e ↦ inl e | inr e ↦ inr (among-one c r e) ]

pub among-kept : (seen : List ℕ) (c r : ℕ) → IsAmong seen r → IsAmong (seen ++ c ∷ []) r
among-kept seen c r h = list_any-append (nat_eq r) seen (c ∷ []) ∙ or_left (list_any (nat_eq r) seen) (list_any (nat_eq r) (c ∷ [])) h

pub among-new : (seen : List ℕ) (c : ℕ) → IsAmong (seen ++ c ∷ []) c
among-new seen c = list_any-append (nat_eq c) seen (c ∷ []) ∙ or_right (list_any (nat_eq c) seen) (list_any (nat_eq c) (c ∷ [])) (among-itself c)
