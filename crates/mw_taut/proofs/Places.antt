-- The places of references in a set of them.
use Rattle.std.proofs.Common.{◌≡◌, ℕ, zero, suc, Bool, true, false, ◌||◌, ◌==◌, List, [], ◌∷◌, ◌++◌, slice_get, Option, Some, None, refl, sym, ap, ◌∙◌, eqb-true, eq-eqb, is_some}
use Rattle.std.specs.Prelude.{MatchOption, if◌then◌else◌}
use Rattle.std.specs.List.{list_any, position}
use Rattle.std.proofs.lemmas.Bool.{both_ways}
use Rattle.mw_heap.proofs.NameSet.{position-stands}
use Rattle.mw_taut.specs.Building.{IsAt, IsNew}

none_among : (keys : List ℕ) (x : ℕ) → IsNew keys x → list_any (λ y. x == y) keys ≡ false
none_among [] x h = refl
none_among (k ∷ keys) x h = go (x == k) refl (none_among keys x (λ i e. h (suc i) e))
  where
    go : (b : Bool) → (x == k) ≡ b → list_any (λ y. x == y) keys ≡ false → (b || list_any (λ y. x == y) keys) ≡ false
    go true e rest = absurd (h 0 (ap Some (sym (eqb-true x k e))))
    go false e rest = rest

pub put_last : (keys : List ℕ) (x : ℕ) → IsNew keys x → (if list_any (λ y. x == y) keys then keys else keys ++ x ∷ []) ≡ keys ++ x ∷ []
put_last keys x h = ap (λ b. if b then keys else keys ++ x ∷ []) (none_among keys x h)

seen_among : (keys : List ℕ) (x i : ℕ) → slice_get keys i ≡ Some x → list_any (λ y. x == y) keys ≡ true
seen_among [] x i h = cc
seen_among (k ∷ keys) x zero h = ap (λ b. b || list_any (λ y. x == y) keys) (eq-eqb x k (some h))
  where
    some : Some k ≡ Some x → x ≡ k
    some e = cc
seen_among (k ∷ keys) x (suc i) h = go (x == k) (seen_among keys x i h)
  where
    go : (b : Bool) → list_any (λ y. x == y) keys ≡ true → (b || list_any (λ y. x == y) keys) ≡ true
    go true e = refl
    go false e = e

pub found_at : (keys : List ℕ) (x : ℕ) (o : Option ℕ) → o ≡ position (λ y. x == y) keys → is_some o ≡ list_any (λ y. x == y) keys → MatchOption o (IsNew keys x) (λ i. IsAt keys i x)
found_at keys x (Some i) e f =
    let r = position-stands (λ y. x == y) keys i e in
    r.1 ∙ ap Some (sym (eqb-true x r.0 r.2))
found_at keys x None e f = λ i a. both_ways (list_any (λ y. x == y) keys) (sym f) (seen_among keys x i a)
