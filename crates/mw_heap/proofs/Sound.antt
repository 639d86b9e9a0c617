-- A sound heap stays sound as it grows and as it is cut, and its old objects stay.
use Rattle.std.proofs.Common.{◌≡◌, ◌≢◌, ℕ, ◌+◌, ◌<◌, ◌≤◌, ◌^◌, false, Some, List, [], ◌∷◌, ◌++◌, length, take, drop, slice_get, sym, ap, ◌∙◌, subst, arith, ◌⊎◌, inl, inr, length-append, Result, Ok, Err, IfOk, OnOk, OnErr}
use Rattle.std.proofs.lemmas.List.{append-nil, take-append-le, take_all, length-take, length-take-le, take-append-drop}
use Rattle.std.proofs.Math.Seq.{take-append_seam}
use Rattle.std.proofs.lemmas.Option.{slice_get_within}
use Rattle.mw_model.specs.Terms.Object.{Object}
use Rattle.mw_heap.specs.declared.store.cell.Cell.{Cell}
use Rattle.mw_heap.specs.Objects.{object_at, IsIn, Grows}
use Rattle.mw_heap.specs.Cells.{one_if, is_large, is_named, natural_count, name_count, MayFollow, object, objects, IsInjective, AreCells, IsSound}
use Rattle.mw_heap.specs.Inserted.{Inserts}
use Rattle.mw_heap.proofs.Lists.{slice_get-push, slice_get-take_within, take-take_within, IsInjective-take}
use Rattle.mw_heap.proofs.Counts.{count_of-append, count_of-take-drop}
use Rattle.mw_heap.proofs.Growth.{length-objects, objects_after-push, object-append, object_at-objects, objects-take, objects-more}

-- an insertion is undone by a cut
pub take-Inserts : {X : Type 0} (old new : List X) (x : X) (i : ℕ) → Inserts old new x i → take (length old) new ≡ old
take-Inserts old new x i h = go h.change
  where
    go : (new ≡ old) ⊎ (new ≡ old ++ x ∷ []) → take (length old) new ≡ old
    go (inl e) = ap (take (length old)) e ∙ take_all (length old) old (omega arith)
    go (inr e) = ap (take (length old)) e ∙ take-append_seam old (x ∷ [])

pub length-Inserts : {X : Type 0} (old new : List X) (x : X) (i : ℕ) → Inserts old new x i → length new ≤ length old + 1
length-Inserts old new x i h = go h.change
  where
    go : (new ≡ old) ⊎ (new ≡ old ++ x ∷ []) → length new ≤ length old + 1
    go (inl e) = omega (arith, ap length e)
    go (inr e) = omega (arith, ap length e, length-append old (x ∷ []))

-- a value that is new went last
pub last-Inserts : {X : Type 0} (old new : List X) (x : X) (i : ℕ) → Inserts old new x i → length new ≢ length old → new ≡ old ++ x ∷ []
last-Inserts old new x i h differ = go h.change
  where
    go : (new ≡ old) ⊎ (new ≡ old ++ x ∷ []) → new ≡ old ++ x ∷ []
    go (inl e) = absurd (differ (ap length e))
    go (inr e) = e

-- the place of what was inserted is an old one or the next
pub Inserts-le : {X : Type 0} (old new : List X) (x : X) (i : ℕ) → Inserts old new x i → i ≤ length old
Inserts-le old new x i h = go h.change
  where
    within : i < length new
    within = slice_get_within new i x h.stands

    go : (new ≡ old) ⊎ (new ≡ old ++ x ∷ []) → i ≤ length old
    go (inl e) = omega (arith, within, ap length e)
    go (inr e) = omega (arith, within, ap length e, length-append old (x ∷ []))

pub AreCells-push : (cs : List Cell) (c : Cell) → AreCells cs → MayFollow cs c → IsInjective (cs ++ c ∷ []) → length (cs ++ c ∷ []) < 2 ^ 32 → AreCells (cs ++ c ∷ [])
AreCells-push cs c are f distinct few = record { in_order = λ i d at. go i d (slice_get-push cs c d i at); distinct = distinct; few = few }
  where
    go : (i : ℕ) (d : Cell) → ((i < length cs) × (slice_get cs i ≡ Some d)) ⊎ ((i ≡ length cs) × (c ≡ d)) → MayFollow (take i (cs ++ c ∷ [])) d
    go i d (inl p) = subst (λ l. MayFollow l d) (sym (take-append-le i cs (c ∷ []) (omega (arith, p.0)))) (are.in_order i d p.1)
    go i d (inr p) = subst (λ e. MayFollow (take i (cs ++ c ∷ [])) e) p.1 (subst (λ l. MayFollow l c) (sym (ap (λ k. take k (cs ++ c ∷ [])) p.0 ∙ take-append_seam cs (c ∷ []))) f)

pub AreCells-take : (n : ℕ) (cs : List Cell) → AreCells cs → AreCells (take n cs)
AreCells-take n cs are = record {
  in_order = λ i c at.
      let w = slice_get-take_within n cs i c at in
      subst (λ l. MayFollow l c) (sym (take-take_within i n cs (omega (arith, w.0)))) (are.in_order i c w.1);
  distinct = IsInjective-take n cs are.distinct;
  few = omega (arith, are.few, length-take n cs);
}

-- a heap that grew, with the object x at r
pub record Adds (old new : List Object) (r : ℕ) (x : Object) : Type 0 where
  pub grows : Grows old new
  pub within : IsIn new r
  pub made : object_at new r ≡ x

-- the cells and sets of a sound heap after the object x was added
abbrev pub BecomesWith : (ns ms : List ℕ) (ss ts : List (List ℕ)) (old new : List Cell) (r : ℕ) (x : Object) → Type 0
BecomesWith ns ms ss ts old new r x = IsSound ms ts new × Adds (objects ns ss old) (objects ms ts new) r x

-- what an inserted cell means over the new heap is its object
pub Adds-cell : (ns ms : List ℕ) (ss ts : List (List ℕ)) (old new : List Cell) (c : Cell) (r : ℕ) (x : Object) → IsSound ms ts new → slice_get new r ≡ Some c → object ms ts (objects ms ts new) c ≡ x → Grows (objects ns ss old) (objects ms ts new) → Adds (objects ns ss old) (objects ms ts new) r x
Adds-cell ns ms ss ts old new c r x sound at is grows = record {
  grows = grows;
  within = omega (arith, length-objects ms ts new, slice_get_within new r c at);
  made = object_at-objects ms ts new r c at (sound.are_cells.in_order r c at) ∙ is;
}

pub stays : (os : List Object) → Grows os os
stays os = ([], sym (append-nil os))

pub grows_from : (os : List Object) {old new : List Object} → old ≡ os → Grows old new → Grows os new
grows_from os {old} {new} is g = subst (λ o. Grows o new) is g

-- what is as it was
module _ (ns ms : List ℕ) (ss ts : List (List ℕ)) (old new : List Cell) (naturals : ms ≡ ns) (names : ts ≡ ss) (cells : new ≡ old) where
  pub same_sound : IsSound ns ss old → IsSound ms ts new
  same_sound h = subst (λ l. IsSound l ts new) (sym naturals) (subst (λ l. IsSound ns l new) (sym names) (subst (IsSound ns ss) (sym cells) h))

  pub same_objects : objects ms ts new ≡ objects ns ss old
  same_objects = (λ j. objects (naturals j) (names j) (cells j))

-- a small natural or a pair
module _ (ns : List ℕ) (ss : List (List ℕ)) (old : List Cell) (sound : IsSound ns ss old) (c : Cell) (plain : (is_large c ≡ false) × (is_named c ≡ false)) (f : MayFollow old c) where
  push_sound : (new : List Cell) → new ≡ old ++ c ∷ [] → IsInjective new → length new < 2 ^ 32 → IsSound ns ss new
  push_sound new e distinct few = subst (IsSound ns ss) (sym e) (record {
    are_cells = AreCells-push old c sound.are_cells f (subst IsInjective e distinct) (omega (arith, few, ap length e));
    are_naturals = sound.are_naturals;
    are_names = sound.are_names;
    all_naturals = omega (arith, count_of-append is_large old (c ∷ []), sound.all_naturals, ap one_if plain.0);
    all_names = omega (arith, count_of-append is_named old (c ∷ []), sound.all_names, ap one_if plain.1);
  })

  module _ (new : List Cell) (r : ℕ) (inserts : Inserts old new c r) (distinct : IsInjective new) (few : length new < 2 ^ 32) where
    plain-sound : IsSound ns ss new
    plain-sound = go inserts.change
      where
        go : (new ≡ old) ⊎ (new ≡ old ++ c ∷ []) → IsSound ns ss new
        go (inl e) = subst (IsSound ns ss) (sym e) sound
        go (inr e) = push_sound new e distinct few

    plain-adds : Adds (objects ns ss old) (objects ns ss new) r (object ns ss (objects ns ss old) c)
    plain-adds =
        let grows = go inserts.change in
        Adds-cell ns ns ss ss old new c r _ plain-sound inserts.stands (ap (λ os. object ns ss os c) grows.1 ∙ object-append ns ss old c (objects ns ss old) grows.0 f (length-objects ns ss old)) grows
      where
        go : (new ≡ old) ⊎ (new ≡ old ++ c ∷ []) → Grows (objects ns ss old) (objects ns ss new)
        go (inl e) = subst (λ l. Grows (objects ns ss old) (objects ns ss l)) (sym e) (stays _)
        go (inr e) = (object ns ss (objects ns ss old) c ∷ [], ap (objects ns ss) e ∙ objects_after-push ns ss [] old c)

  -- what an insertion of the cell comes to
  module _ {E : Type 0} (os : List Object) (is : objects ns ss old ≡ os) (new : List Cell) (few : length new < 2 ^ 32) where
    pub plain_sound : (result : Result ℕ E) → IfOk result (λ r. Inserts old new c r) → OnOk result (IsInjective new) → OnErr result (new ≡ old) → IsSound ns ss new
    plain_sound (Ok r) inserts distinct err = plain-sound new r inserts distinct few
    plain_sound (Err x) inserts distinct err = subst (IsSound ns ss) (sym err) sound

    pub plain_grows : (result : Result ℕ E) → IfOk result (λ r. Inserts old new c r) → OnOk result (IsInjective new) → OnErr result (new ≡ old) → Grows os (objects ns ss new)
    plain_grows (Ok r) inserts distinct err = subst (λ o. Grows o (objects ns ss new)) is (plain-adds new r inserts distinct few).grows
    plain_grows (Err x) inserts distinct err = subst (λ o. Grows o (objects ns ss new)) (ap (objects ns ss) err ∙ is) (stays _)

    pub plain_made : (x : Object) → object ns ss os c ≡ x → (result : Result ℕ E) → IfOk result (λ r. Inserts old new c r) → OnOk result (IsInjective new) → IfOk result (λ r. IsIn (objects ns ss new) r × (object_at (objects ns ss new) r ≡ x))
    plain_made x e (Ok r) inserts distinct = let a = plain-adds new r inserts distinct few in (a.within, a.made ∙ (ap (λ o. object ns ss o c) is ∙ e))
    plain_made x e (Err y) inserts distinct = tt

-- a cut to the first n cells, with the a naturals and b names that they have
module _ (ns : List ℕ) (ss : List (List ℕ)) (cs : List Cell) (sound : IsSound ns ss cs) (n a b : ℕ) (within : n ≤ length cs) (all_a : a + natural_count (drop n cs) ≡ length ns) (all_b : b + name_count (drop n cs) ≡ length ss) where
  naturals_kept : natural_count (take n cs) ≡ a
  naturals_kept = omega (arith, count_of-take-drop is_large n cs, sound.all_naturals, all_a)

  names_kept : name_count (take n cs) ≡ b
  names_kept = omega (arith, count_of-take-drop is_named n cs, sound.all_names, all_b)

  length-naturals : length (take a ns) ≡ a
  length-naturals = length-take-le a ns (omega (arith, all_a))

  length-names : length (take b ss) ≡ b
  length-names = length-take-le b ss (omega (arith, all_b))

  pub cut_sound : IsSound (take a ns) (take b ss) (take n cs)
  cut_sound = record {
    are_cells = AreCells-take n cs sound.are_cells;
    are_naturals = record { large = λ i m at. sound.are_naturals.large i m (slice_get-take_within a ns i m at).1; distinct = IsInjective-take a ns sound.are_naturals.distinct };
    are_names = record { valid = λ i s at. sound.are_names.valid i s (slice_get-take_within b ss i s at).1; distinct = IsInjective-take b ss sound.are_names.distinct };
    all_naturals = naturals_kept ∙ sym length-naturals;
    all_names = names_kept ∙ sym length-names;
  }

  pub cut_objects : objects (take a ns) (take b ss) (take n cs) ≡ take n (objects ns ss cs)
  cut_objects =
      sym (objects-more (take a ns) (drop a ns) (take b ss) (drop b ss) (take n cs) cut_sound.are_cells.in_order cut_sound.all_naturals cut_sound.all_names)
      ∙ ((λ j. objects (take-append-drop a ns j) (take-append-drop b ss j) (take n cs)) ∙ objects-take ns ss n cs within)
