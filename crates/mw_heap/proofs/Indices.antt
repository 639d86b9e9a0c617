-- Notes on cells, which are found by the indices at their places.
use Rattle.std.proofs.Common.{◌≡◌, ℕ, zero, suc, ◌<◌, Bool, true, false, cond, nat_eq, List, [], ◌∷◌, ◌++◌, length, set, slice_get, Option, Some, None, refl, sym, ap, ◌∙◌, subst, arith, eqb-true, eq-eqb, inl, inr}
use Rattle.std.specs.Map.{lookup}
use Rattle.std.proofs.lemmas.Map.Entries.{place_from_lookup}
use Rattle.std.proofs.lemmas.Option.{some_pair_parts}
use Rattle.mw_heap.specs.Indices.{AreIndexed}
use Rattle.mw_heap.proofs.Lists.{slice_get-push}

-- a cell with an entry is noted
noted_at : (entries : List (ℕ × ℕ)) (index cell note : ℕ) → slice_get entries index ≡ Some (cell, note) → lookup (nat_eq cell) entries ≡ None → ⊥
noted_at [] index cell note at none = cc
noted_at (e ∷ entries) zero cell note at none = at_first (nat_eq cell e.0) (eq-eqb cell e.0 (first e at)) none
  where
    first : (e : ℕ × ℕ) → Some e ≡ Some (cell, note) → cell ≡ e.0
    first e same = cc

    at_first : (b : Bool) → b ≡ true → cond b (Some e.1) (lookup (nat_eq cell) entries) ≡ None → ⊥
    at_first true h k = cc
    at_first false h k = cc
noted_at (e ∷ entries) (suc index) cell note at none = later (nat_eq cell e.0) none (noted_at entries index cell note at)
  where
    later : (b : Bool) → cond b (Some e.1) (lookup (nat_eq cell) entries) ≡ None → (lookup (nat_eq cell) entries ≡ None → ⊥) → ⊥
    later true k rest = cc
    later false k rest = rest k

same_index : (o : Option ℕ) (i j : ℕ) → o ≡ Some i → o ≡ Some j → i ≡ j
same_index o i j h k = cc

module _ (entries : List (ℕ × ℕ)) (indices : List ℕ) (indexed : AreIndexed entries indices) (cell : ℕ) where
  -- where the entry of a cell that is noted stands
  entry_of : (note : ℕ) → lookup (nat_eq cell) entries ≡ Some note → (index : ℕ) × (slice_get indices cell ≡ Some index) × (slice_get entries index ≡ Some (cell, note))
  entry_of note h =
      let place = place_from_lookup (nat_eq cell) entries note h in
      let at : slice_get entries place.0 ≡ Some (cell, note) = place.2 ∙ ap (λ k. Some (k, note)) (sym (eqb-true cell place.1 place.3)) in
      (place.0, indexed place.0 cell note at, at)

  pub no_index : slice_get indices cell ≡ None → None ≡ lookup (nat_eq cell) entries
  no_index none = go (lookup (nat_eq cell) entries) refl
    where
      go : (o : Option ℕ) → lookup (nat_eq cell) entries ≡ o → None ≡ o
      go None h = refl
      go (Some note) h = let e = entry_of note h in let f : None ≡ Some e.0 = sym none ∙ e.1 in cc

  pub no_entry : (index : ℕ) → slice_get indices cell ≡ Some index → slice_get entries index ≡ None → None ≡ lookup (nat_eq cell) entries
  no_entry index at none = go (lookup (nat_eq cell) entries) refl
    where
      go : (o : Option ℕ) → lookup (nat_eq cell) entries ≡ o → None ≡ o
      go None h = refl
      go (Some note) h =
          let e = entry_of note h in
          let f : ◌≡◌ {A = Option (ℕ × ℕ)} None (Some (cell, note)) = sym none ∙ (ap (slice_get entries) (same_index (slice_get indices cell) index e.0 at e.1) ∙ e.2) in
          cc

  pub other_entry : (index : ℕ) → slice_get indices cell ≡ Some index → (x y : ℕ) → slice_get entries index ≡ Some (x, y) → nat_eq x cell ≡ false → None ≡ lookup (nat_eq cell) entries
  other_entry index at x y entry other = go (lookup (nat_eq cell) entries) refl
    where
      go : (o : Option ℕ) → lookup (nat_eq cell) entries ≡ o → None ≡ o
      go None h = refl
      go (Some note) h =
          let e = entry_of note h in
          let f : ◌≡◌ {A = Option (ℕ × ℕ)} (Some (x, y)) (Some (cell, note)) = sym entry ∙ (ap (slice_get entries) (same_index (slice_get indices cell) index e.0 at e.1) ∙ e.2) in
          let t : true ≡ false = sym (eq-eqb x cell (some_pair_parts x cell y note f).0) ∙ other in
          cc

  pub own_entry : (index : ℕ) → slice_get indices cell ≡ Some index → (x y : ℕ) → slice_get entries index ≡ Some (x, y) → nat_eq x cell ≡ true → Some y ≡ lookup (nat_eq cell) entries
  own_entry index at x y entry own = go (lookup (nat_eq cell) entries) refl
    where
      go : (o : Option ℕ) → lookup (nat_eq cell) entries ≡ o → Some y ≡ o
      go None h = absurd (noted_at entries index cell y (entry ∙ ap (λ k. Some (k, y)) (eqb-true x cell own)) h)
      go (Some note) h =
          let e = entry_of note h in
          let f : ◌≡◌ {A = Option (ℕ × ℕ)} (Some (x, y)) (Some (cell, note)) = sym entry ∙ (ap (slice_get entries) (same_index (slice_get indices cell) index e.0 at e.1) ∙ e.2) in
          ap Some (some_pair_parts x cell y note f).1

-- what is written at one place leaves the others
set_same : (xs : List ℕ) (i v : ℕ) → i < length xs → slice_get (set xs i v) i ≡ Some v
set_same [] i v h = absurd (omega (arith, h))
set_same (x ∷ xs) zero v h = refl
set_same (x ∷ xs) (suc i) v h = set_same xs i v (omega (arith, h))

set_other : (xs : List ℕ) (i j v : ℕ) → (i ≡ j → ⊥) → slice_get (set xs i v) j ≡ slice_get xs j
set_other [] i j v h = refl
set_other (x ∷ xs) zero zero v h = absurd (h refl)
set_other (x ∷ xs) zero (suc j) v h = refl
set_other (x ∷ xs) (suc i) zero v h = refl
set_other (x ∷ xs) (suc i) (suc j) v h = set_other xs i j v (λ e. h (ap suc e))

-- one more entry, whose index is written at the place of its cell
pub indexed-push : (entries : List (ℕ × ℕ)) (indices : List ℕ) (cell note : ℕ) → AreIndexed entries indices → lookup (nat_eq cell) entries ≡ None → cell < length indices → AreIndexed (entries ++ (cell, note) ∷ []) (set indices cell (length entries))
indexed-push entries indices cell note indexed none within index x y at =
    elim (slice_get-push entries (cell, note) (x, y) index at) [
      | inl old ↦ set_other indices cell x (length entries) (λ e. noted_at entries index x y old.1 (subst (λ k. lookup (nat_eq k) entries ≡ None) e none)) ∙ indexed index x y old.1
      | inr new ↦
          let same : x ≡ cell = first new.1 in
          ap (slice_get (set indices cell (length entries))) same ∙ (set_same indices cell (length entries) within ∙ ap Some (sym new.0))
    ]
  where
    first : ◌≡◌ {A = ℕ × ℕ} (cell, note) (x, y) → x ≡ cell
    first e = ap (λ p. p.0) (sym e)
