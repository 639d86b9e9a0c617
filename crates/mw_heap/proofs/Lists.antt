-- Lists by the places of their items: what an append, a cut and an injective list say of them.
use Rattle.std.proofs.Common.{◌≡◌, ℕ, zero, suc, ◌<◌, ◌≤◌, Bool, true, Some, List, [], ◌∷◌, ◌++◌, length, take, drop, slice_get, refl, sym, ap, ap₂, ◌∙◌, arith, ◌⊎◌, inl, inr}
use Rattle.std.specs.List.{IsDistinct}
use Rattle.std.proofs.lemmas.Map.Keys.{apart_from_distinct}
use Rattle.std.proofs.lemmas.Bool.{both_ways}
use Rattle.std.proofs.lemmas.Bool.{cases_order}
use Rattle.std.proofs.lemmas.Option.{slice_get_within, get_or_from_slice_get}
use Rattle.mw_heap.specs.Cells.{IsInjective}

module _ {X : Type 0} where
  pub slice_get-append : (xs ys : List X) (i : ℕ) → i < length xs → slice_get (xs ++ ys) i ≡ slice_get xs i
  slice_get-append [] ys i h = absurd (omega arith)
  slice_get-append (x ∷ xs) ys zero h = refl
  slice_get-append (x ∷ xs) ys (suc i) h = slice_get-append xs ys i (omega arith)

  pub slice_get-seam : (xs ys : List X) (x : X) → slice_get (xs ++ x ∷ ys) (length xs) ≡ Some x
  slice_get-seam [] ys x = refl
  slice_get-seam (y ∷ xs) ys x = slice_get-seam xs ys x

  -- an item of a list with one more at its end is an old one or that one
  pub slice_get-push : (xs : List X) (x y : X) (i : ℕ) → slice_get (xs ++ x ∷ []) i ≡ Some y → ((i < length xs) × (slice_get xs i ≡ Some y)) ⊎ ((i ≡ length xs) × (x ≡ y))
  slice_get-push [] x y zero h = inr (refl, cc)
  slice_get-push [] x y (suc i) h = cc
  slice_get-push (z ∷ xs) x y zero h = inl (omega arith, h)
  slice_get-push (z ∷ xs) x y (suc i) h = next (slice_get-push xs x y i h)
    where
      next : ((i < length xs) × (slice_get xs i ≡ Some y)) ⊎ ((i ≡ length xs) × (x ≡ y)) → ((suc i < suc (length xs)) × (slice_get xs i ≡ Some y)) ⊎ ((suc i ≡ suc (length xs)) × (x ≡ y))
      next (inl p) = inl (omega (arith, p.0), p.1)
      next (inr p) = inr (ap suc p.0, p.1)

  pub slice_get-take : (n : ℕ) (xs : List X) (i : ℕ) → i < n → slice_get (take n xs) i ≡ slice_get xs i
  slice_get-take zero xs i h = absurd (omega arith)
  slice_get-take (suc n) [] i h = refl
  slice_get-take (suc n) (x ∷ xs) zero h = refl
  slice_get-take (suc n) (x ∷ xs) (suc i) h = slice_get-take n xs i (omega arith)

  pub length-take_within : (n : ℕ) (xs : List X) → n ≤ length xs → length (take n xs) ≡ n
  length-take_within zero xs h = refl
  length-take_within (suc n) [] h = absurd (omega arith)
  length-take_within (suc n) (x ∷ xs) h = ap suc (length-take_within n xs (omega arith))

  pub take-take_within : (i n : ℕ) (xs : List X) → i ≤ n → take i (take n xs) ≡ take i xs
  take-take_within zero n xs h = refl
  take-take_within (suc i) zero xs h = absurd (omega arith)
  take-take_within (suc i) (suc n) [] h = refl
  take-take_within (suc i) (suc n) (x ∷ xs) h = ap (λ l. x ∷ l) (take-take_within i n xs (omega arith))

  -- the list about one of its items
  pub split_at : (xs : List X) (i : ℕ) (x : X) → slice_get xs i ≡ Some x → xs ≡ take i xs ++ x ∷ drop (suc i) xs
  split_at [] i x h = cc
  split_at (y ∷ xs) zero x h = ap (λ z. z ∷ xs) (some h)
    where
      some : Some y ≡ Some x → y ≡ x
      some e = cc
  split_at (y ∷ xs) (suc i) x h = ap (λ l. y ∷ l) (split_at xs i x h)

  -- what a cut keeps
  pub slice_get-take_within : (n : ℕ) (xs : List X) (i : ℕ) (x : X) → slice_get (take n xs) i ≡ Some x → (i < n) × (slice_get xs i ≡ Some x)
  slice_get-take_within zero xs i x h = cc
  slice_get-take_within (suc n) [] i x h = cc
  slice_get-take_within (suc n) (y ∷ xs) zero x h = (omega arith, h)
  slice_get-take_within (suc n) (y ∷ xs) (suc i) x h = let r = slice_get-take_within n xs i x h in (omega (arith, r.0), r.1)

  pub slice_get-some : (xs : List X) (i : ℕ) → i < length xs → (x : X) × (slice_get xs i ≡ Some x)
  slice_get-some [] i h = absurd (omega arith)
  slice_get-some (x ∷ xs) zero h = (x, refl)
  slice_get-some (x ∷ xs) (suc i) h = slice_get-some xs i (omega arith)

  pub IsInjective-take : (n : ℕ) (xs : List X) → IsInjective xs → IsInjective (take n xs)
  IsInjective-take n xs same i j within e =
      let x = slice_get-some (take n xs) i within in
      let a = slice_get-take_within n xs i x.0 x.1 in
      let b = slice_get-take_within n xs j x.0 (sym e ∙ x.1) in
      same i j (slice_get_within xs i x.0 a.1) (a.1 ∙ sym b.1)

  -- items that are equal both ways are one
  pub IsDistinct-places : (eq : X → X → Bool) (xs : List X) → IsDistinct eq xs → (i j : ℕ) (x y : X) → slice_get xs i ≡ Some x → slice_get xs j ≡ Some y → eq x y ≡ true → eq y x ≡ true → i ≡ j
  IsDistinct-places eq xs apart i j x y at_i at_j xy yx = go (cases_order i j)
    where
      clash : (a b : ℕ) (u v : X) → slice_get xs a ≡ Some u → slice_get xs b ≡ Some v → eq u v ≡ true → a < b → ⊥
      clash a b u v p q same less =
          let r = apart_from_distinct eq xs a b u apart less (slice_get_within xs b v q) in
          both_ways (eq u v) (ap₂ eq (sym (get_or_from_slice_get xs a u u p)) (sym (get_or_from_slice_get xs b v u q)) ∙ r) same

      go : (i ≡ j) ⊎ ((i < j) ⊎ (j < i)) → i ≡ j
      go (inl r) = r
      go (inr (inl r)) = absurd (clash i j x y at_i at_j xy r)
      go (inr (inr r)) = absurd (clash j i y x at_j at_i yx r)

  pub IsInjective-distinct : (eq : X → X → Bool) → ((x : X) → eq x x ≡ true) → (xs : List X) → IsDistinct eq xs → IsInjective xs
  IsInjective-distinct eq same xs apart i j within e =
      let a = slice_get-some xs i within in
      IsDistinct-places eq xs apart i j a.0 a.0 a.1 (sym e ∙ a.1) (same a.0) (same a.0)
