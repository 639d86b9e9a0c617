-- Building a table comes to an end: a part that is wanted is lighter, and one that is put is no longer missing.
use Rattle.std.proofs.Common.{◌≡◌, ℕ, zero, suc, ◌+◌, ◌*◌, ◌<◌, ◌≤◌, arith, Bool, true, false, ◌||◌, cond, eqb, List, [], ◌∷◌, ◌++◌, length, Some, refl, sym, ap, ◌∙◌, eqb-true, eq-eqb}
use Rattle.std.proofs.Math.Nat.{mul-le-mul_left}
use Rattle.std.proofs.lemmas.Bool.{both_ways}
use Rattle.mw_model.specs.Terms.Object.{Object, weight}
use Rattle.mw_model.specs.Terms.Term.{ArityTable}
use Rattle.mw_heap.specs.Objects.{object_at, IsIn}
use Rattle.mw_taut.specs.Building.{IsNew, has, missing, last_weight, left_over, IsFalling}

has_more : (k : ℕ) (xs : List ℕ) (x : ℕ) → has k xs ≡ true → has k (xs ++ x ∷ []) ≡ true
has_more k [] x h = cc
has_more k (y ∷ xs) x h = go (eqb k y) h (has_more k xs x)
  where
    go : (b : Bool) → (b || has k xs) ≡ true → (has k xs ≡ true → has k (xs ++ x ∷ []) ≡ true) → (b || has k (xs ++ x ∷ [])) ≡ true
    go true e more = refl
    go false e more = more e

has_last : (xs : List ℕ) (x : ℕ) → has x (xs ++ x ∷ []) ≡ true
has_last [] x = ap (λ b. b || false) (eq-eqb x x refl)
has_last (y ∷ xs) x = go (eqb x y) (has_last xs x)
  where
    go : (b : Bool) → has x (xs ++ x ∷ []) ≡ true → (b || has x (xs ++ x ∷ [])) ≡ true
    go true e = refl
    go false e = e

missing_no_more : (n : ℕ) (xs : List ℕ) (x : ℕ) → missing n (xs ++ x ∷ []) ≤ missing n xs
missing_no_more zero xs x = omega arith
missing_no_more (suc k) xs x = go (has k xs) (has k (xs ++ x ∷ [])) refl refl (has_more k xs x) (missing_no_more k xs x)
  where
    go : (b d : Bool) → has k xs ≡ b → has k (xs ++ x ∷ []) ≡ d → (has k xs ≡ true → has k (xs ++ x ∷ []) ≡ true) → missing k (xs ++ x ∷ []) ≤ missing k xs → cond d 0 1 + missing k (xs ++ x ∷ []) ≤ cond b 0 1 + missing k xs
    go true true e f m l = omega (arith, l)
    go false true e f m l = omega (arith, l)
    go false false e f m l = omega (arith, l)
    go true false e f m l = absurd (both_ways (has k (xs ++ x ∷ [])) f (m e))

missing_less : (n : ℕ) (xs : List ℕ) (x : ℕ) → x < n → has x xs ≡ false → missing n (xs ++ x ∷ []) < missing n xs
missing_less zero xs x l h = absurd (omega (arith, l))
missing_less (suc k) xs x l h = go (eqb k x) refl (λ m. missing_less k xs x m h)
  where
    step : (b d : Bool) → has k xs ≡ b → has k (xs ++ x ∷ []) ≡ d → missing k (xs ++ x ∷ []) < missing k xs → cond d 0 1 + missing k (xs ++ x ∷ []) < cond b 0 1 + missing k xs
    step true true e f m = omega (arith, m)
    step false true e f m = omega (arith, m)
    step false false e f m = omega (arith, m)
    step true false e f m = absurd (both_ways (has k (xs ++ x ∷ [])) f (has_more k xs x e))

    here_now : k ≡ x → missing (suc k) (xs ++ x ∷ []) < missing (suc k) xs
    here_now e =
        let old : has k xs ≡ false = ap (λ j. has j xs) e ∙ h in
        let now : has k (xs ++ x ∷ []) ≡ true = ap (λ j. has j (xs ++ x ∷ [])) e ∙ has_last xs x in
        omega (arith, ap {B = ℕ} (λ b. cond b 0 1) old, ap {B = ℕ} (λ b. cond b 0 1) now, missing_no_more k xs x)

    go : (b : Bool) → eqb k x ≡ b → (x < k → missing k (xs ++ x ∷ []) < missing k xs) → missing (suc k) (xs ++ x ∷ []) < missing (suc k) xs
    go true e m = here_now (eqb-true k x e)
    go false e m = elim_apart (λ same. both_ways (eqb k x) e (eq-eqb k x same))
      where
        elim_apart : (k ≡ x → ⊥) → missing (suc k) (xs ++ x ∷ []) < missing (suc k) xs
        elim_apart never = step (has k xs) (has k (xs ++ x ∷ [])) refl refl (m (omega (arith, l, never)))

new_has : (keys : List ℕ) (x : ℕ) → IsNew keys x → has x keys ≡ false
new_has [] x h = refl
new_has (y ∷ keys) x h = go (eqb x y) refl (new_has keys x (λ i e. h (suc i) e))
  where
    go : (b : Bool) → eqb x y ≡ b → has x keys ≡ false → (b || has x keys) ≡ false
    go true e rest = absurd (h 0 (ap Some (sym (eqb-true x y e))))
    go false e rest = rest

last_weight-more : (os : List Object) (rs : List ℕ) (x : ℕ) → last_weight os (rs ++ x ∷ []) ≡ weight (object_at os x)
last_weight-more os [] x = refl
last_weight-more os (r ∷ []) x = refl
last_weight-more os (r ∷ (s ∷ rs)) x = last_weight-more os (s ∷ rs) x

module _ (A : ArityTable) (os : List Object) where
  last_below : (r : ℕ) (rs : List ℕ) → IsFalling A os (r ∷ rs) → last_weight os (r ∷ rs) ≤ weight (object_at os r)
  last_below r [] h = omega arith
  last_below r (s ∷ rs) h = omega (arith, h.0.0, last_below s rs h.1)

  -- the first on the path is the whole, so that none is heavier
  pub at_most : (f : ℕ) (path : List ℕ) → IsFalling A os path → ((r : ℕ) (rs : List ℕ) → path ≡ r ∷ rs → object_at os r ≡ object_at os f) → last_weight os path ≤ weight (object_at os f)
  at_most f [] h first = omega arith
  at_most f (r ∷ rs) h first = omega (arith, last_below r rs h, ap weight (first r rs refl))

pub falls_wants : (os : List Object) (f : ℕ) (keys rest : List ℕ) (x y : ℕ) → weight (object_at os y) < weight (object_at os x) → left_over os f keys ((rest ++ x ∷ []) ++ y ∷ []) < left_over os f keys (rest ++ x ∷ [])
falls_wants os f keys rest x y l = omega (arith, l, last_weight-more os (rest ++ x ∷ []) y, last_weight-more os rest x)

pub falls_put : (os : List Object) (f : ℕ) (keys rest : List ℕ) (x : ℕ) → IsIn os x → IsNew keys x → last_weight os rest ≤ weight (object_at os f) → left_over os f (keys ++ x ∷ []) rest < left_over os f keys (rest ++ x ∷ [])
falls_put os f keys rest x i n l = less (missing (length os) (keys ++ x ∷ [])) (missing (length os) keys) (weight (object_at os f)) (last_weight os rest) (last_weight os (rest ++ x ∷ [])) (missing_less (length os) keys x i (new_has keys x n)) l
  where
    less : (a b w u v : ℕ) → a < b → u ≤ w → a * suc w + u < b * suc w + v
    less a b w u v h k =
        let m : suc w * suc a ≤ suc w * b = mul-le-mul_left (suc w) (omega (arith, h)) in
        omega (arith, m, k)
