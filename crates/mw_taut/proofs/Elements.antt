-- The elements of a list, and of one that is an element longer.
use Rattle.std.proofs.Common.{◌≡◌, ℕ, zero, suc, ◌<◌, ◌≤◌, arith, List, [], ◌∷◌, ◌++◌, map, drop, length, get_or, slice_get, Some, ◌⊎◌, inl, inr, refl, sym, ap, subst}
use Rattle.mw_model.specs.Values.Truth.{Each}

pub each_more : {X : Type 0} (P : X → Type 0) (xs : List X) (x : X) → Each P xs → P x → Each P (xs ++ x ∷ [])
each_more P [] x h i = (i, tt)
each_more P (y ∷ xs) x h i = (h.0, each_more P xs x h.1 i)

pub each_front : {X : Type 0} (P : X → Type 0) (xs : List X) (x : X) → Each P (xs ++ x ∷ []) → Each P xs × P x
each_front P [] x h = (tt, h.0)
each_front P (y ∷ xs) x h = let r = each_front P xs x h.1 in ((h.0, r.0), r.1)

pub at_more : {X : Type 0} (xs : List X) (x y : X) (i : ℕ) → slice_get xs i ≡ Some y → slice_get (xs ++ x ∷ []) i ≡ Some y
at_more [] x y i h = cc
at_more (z ∷ xs) x y zero h = h
at_more (z ∷ xs) x y (suc i) h = at_more xs x y i h

pub at_end : {X : Type 0} (xs : List X) (x : X) → slice_get (xs ++ x ∷ []) (length xs) ≡ Some x
at_end [] x = refl
at_end (y ∷ xs) x = at_end xs x

pub at_cases : {X : Type 0} (xs : List X) (x y : X) (i : ℕ) → slice_get (xs ++ x ∷ []) i ≡ Some y → (slice_get xs i ≡ Some y) ⊎ (x ≡ y)
at_cases [] x y zero h = inr (some h)
  where
    some : Some x ≡ Some y → x ≡ y
    some e = cc
at_cases [] x y (suc i) h = cc
at_cases (z ∷ xs) x y zero h = inl h
at_cases (z ∷ xs) x y (suc i) h = at_cases xs x y i h

pub at_map : {X Y : Type 0} (f : X → Y) (xs : List X) (i : ℕ) (x : X) → slice_get xs i ≡ Some x → slice_get (map f xs) i ≡ Some (f x)
at_map f [] i x h = cc
at_map f (y ∷ xs) zero x h = ap Some (ap f (some h))
  where
    some : Some y ≡ Some x → y ≡ x
    some e = cc
at_map f (y ∷ xs) (suc i) x h = at_map f xs i x h

pub at_within : {X : Type 0} (xs : List X) (i : ℕ) (x : X) → slice_get xs i ≡ Some x → i < length xs
at_within [] i x h = cc
at_within (y ∷ xs) zero x h = omega arith
at_within (y ∷ xs) (suc i) x h = omega (arith, at_within xs i x h)

pub each_at : {X : Type 0} (P : X → Type 0) (xs : List X) (i : ℕ) (x : X) → Each P xs → slice_get xs i ≡ Some x → P x
each_at P [] i x h e = cc
each_at P (y ∷ xs) zero x h e = subst P (some e) h.0
  where
    some : Some y ≡ Some x → y ≡ x
    some k = cc
each_at P (y ∷ xs) (suc i) x h e = each_at P xs i x h.1 e

-- of the first elements, and of the rest, what holds of all
pub each_parts : {X : Type 0} (P : X → Type 0) (xs ys : List X) → Each P (xs ++ ys) → Each P xs × Each P ys
each_parts P [] ys h = (tt, h)
each_parts P (x ∷ xs) ys h = let r = each_parts P xs ys h.1 in ((h.0, r.0), r.1)

-- ---- from a place on

pub dropped : {X : Type 0} (xs : List X) (i : ℕ) (x : X) → i < length xs → x ≡ get_or xs i x → drop i xs ≡ x ∷ drop (suc i) xs
dropped [] i x h e = absurd (omega (arith, h))
dropped (y ∷ xs) zero x h e = ap (λ z. z ∷ xs) (sym e)
dropped (y ∷ xs) (suc i) x h e = dropped xs i x (omega (arith, h)) e

pub all_dropped : {X : Type 0} (xs : List X) (k : ℕ) → length xs ≤ k → drop k xs ≡ []
all_dropped [] zero m = refl
all_dropped [] (suc k) m = refl
all_dropped (x ∷ xs) zero m = absurd (omega (arith, m))
all_dropped (x ∷ xs) (suc k) m = all_dropped xs k (omega (arith, m))

pub default_free : {X : Type 0} (xs : List X) (i : ℕ) (d e : X) → i < length xs → get_or xs i d ≡ get_or xs i e
default_free [] i d e h = absurd (omega (arith, h))
default_free (x ∷ xs) zero d e h = refl
default_free (x ∷ xs) (suc i) d e h = default_free xs i d e (omega (arith, h))
