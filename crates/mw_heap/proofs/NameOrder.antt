-- Slices of bytes are compared as names are ordered.
use Rattle.std.proofs.Common.{◌≡◌, ℕ, Bool, true, false, ◌&&◌, ◌||◌, cond, Some, List, [], ◌∷◌, refl, eqb, ltb, Less, Equal, Greater}
use Rattle.std.specs.Cmp.Lexicographic.{slice_partial_cmp}
use Rattle.std.specs.Ordering.{is_some_and, nat_cmp, is_lt, partial_ordering_then}
use Rattle.mw_model.specs.Terms.Object.{is_before_bytes}

pub is_before_bytes-slices : (xs ys : List ℕ) → is_some_and is_lt (slice_partial_cmp (λ x y. Some (nat_cmp x y)) xs ys) ≡ is_before_bytes xs ys
is_before_bytes-slices [] [] = refl
is_before_bytes-slices [] (y ∷ ys) = refl
is_before_bytes-slices (x ∷ xs) [] = refl
is_before_bytes-slices (x ∷ xs) (y ∷ ys) = go (ltb x y) (eqb x y) (is_before_bytes-slices xs ys)
  where
    go : (less same : Bool) → is_some_and is_lt (slice_partial_cmp (λ x y. Some (nat_cmp x y)) xs ys) ≡ is_before_bytes xs ys
        → is_some_and is_lt (partial_ordering_then (Some (cond less Less (cond same Equal Greater))) (slice_partial_cmp (λ x y. Some (nat_cmp x y)) xs ys)) ≡ (less || (same && is_before_bytes xs ys))
    go true same rest = refl
    go false true rest = rest
    go false false rest = refl
