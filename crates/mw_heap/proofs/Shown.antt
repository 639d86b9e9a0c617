-- What a sound heap's cells show of its objects: each its form, in range, and no object twice.
use Rattle.std.proofs.Common.{◌≡◌, ℕ, zero, suc, ◌<◌, ◌≤◌, ◌^◌, Bool, true, false, ◌||◌, not, Some, List, [], length, take, get_or, slice_get, refl, sym, ap, ap₂, ◌∙◌, subst, arith, eqb, eq-eqb, eqb-true, lt-ltb}
use Rattle.std.proofs.lemmas.Bool.{both_ways}
use Rattle.std.proofs.lemmas.List.{length-take}
use Rattle.std.proofs.lemmas.Option.{slice_get_within, slice_get-get_or, get_or_from_slice_get}
use Rattle.mw_model.specs.Terms.Object.{Object, Natural, Symbol, Pair, name_of_bytes, car, cdr, is_name, same_object}
use Rattle.mw_model.specs.Values.Primitive.{is_pair, is_symbol, name_of, number}
use Rattle.mw_model.specs.Events.Evaluation.{range}
use Rattle.mw_model.specs.Events.Fate.{is_out_of_range}
use Rattle.mw_model.proofs.Names.{bytes-name_of_bytes, same_object-from, same_object-eq}
use Rattle.mw_heap.specs.declared.store.cell.Cell.{Cell}
use Rattle.mw_heap.specs.declared.store.cell.Cell.TheVariants.{Small, Large, Symbol as Named, Pair as Parts}
use Rattle.mw_heap.specs.Objects.{object_at, IsIn, AreDistinct, StandsBefore, ArePartsOlder}
use Rattle.mw_heap.specs.Cells.{object, objects, MayFollow, is_large, is_named, IsSound}
use Rattle.mw_heap.proofs.Lists.{slice_get-some}
use Rattle.mw_heap.proofs.Counts.{count_of-take-lt}
use Rattle.mw_heap.proofs.Growth.{length-objects, object_at-objects}

module _ (ns : List ℕ) (ss : List (List ℕ)) (cs : List Cell) (sound : IsSound ns ss cs) (os : List Object) (is : objects ns ss cs ≡ os) where
  pub length-cells : length cs ≡ length os
  length-cells = sym (length-objects ns ss cs) ∙ ap length is

  -- a cell is its object over the heap
  pub shown : (x : ℕ) (c : Cell) → slice_get cs x ≡ Some c → object_at os x ≡ object ns ss os c
  shown x c at = subst (λ o. object_at o x ≡ object ns ss o c) is (object_at-objects ns ss cs x c at (sound.are_cells.in_order x c at))

  pub follows_older : (x : ℕ) (c : Cell) → slice_get cs x ≡ Some c → MayFollow (take x cs) c
  follows_older x c at = sound.are_cells.in_order x c at

  pub parts_older : (x a b : ℕ) → slice_get cs x ≡ Some (Parts a b) → (a < x) × (b < x)
  parts_older x a b at =
      let f = follows_older x (Parts a b) at in
      let n = length-take x cs in
      (omega (arith, f.0, n), omega (arith, f.1, n))

  pub parts_in : (x a b : ℕ) → slice_get cs x ≡ Some (Parts a b) → IsIn os a × IsIn os b
  parts_in x a b at =
      let f = parts_older x a b at in
      let w = slice_get_within cs x (Parts a b) at in
      (omega (arith, f.0, w, length-cells), omega (arith, f.1, w, length-cells))

  pair_parts : (x : ℕ) (c : Cell) → slice_get cs x ≡ Some c → (a b : Object) → object_at os x ≡ Pair a b → StandsBefore os x a × StandsBefore os x b
  pair_parts x (Small n) at a b e = let z : Natural n ≡ Pair a b = sym (shown x (Small n) at) ∙ e in cc
  pair_parts x (Large i) at a b e = let z : Natural (get_or ns i 0) ≡ Pair a b = sym (shown x (Large i) at) ∙ e in cc
  pair_parts x (Named i) at a b e = let z : Symbol (name_of_bytes (get_or ss i [])) ≡ Pair a b = sym (shown x (Named i) at) ∙ e in cc
  pair_parts x (Parts p q) at a b e =
      let older = parts_older x p q at in
      let same = sym (shown x (Parts p q) at) ∙ e in
      ((p, older.0, ap car same), (q, older.1, ap cdr same))

  pub parts_are_older : ArePartsOlder os
  parts_are_older x a b within e = let c = slice_get-some cs x (omega (arith, within, length-cells)) in pair_parts x c.0 c.1 a b e

  -- the place of a large natural, and of a name
  pub large_within : (x i : ℕ) → slice_get cs x ≡ Some (Large i) → i < length ns
  large_within x i at = omega (arith, follows_older x (Large i) at, count_of-take-lt is_large cs x (Large i) at refl, sound.all_naturals)

  pub name_within : (x i : ℕ) → slice_get cs x ≡ Some (Named i) → i < length ss
  name_within x i at = omega (arith, follows_older x (Named i) at, count_of-take-lt is_named cs x (Named i) at refl, sound.all_names)

  pub name_valid : (x i : ℕ) → slice_get cs x ≡ Some (Named i) → is_name (get_or ss i []) ≡ true
  name_valid x i at = sound.are_names.valid i (get_or ss i []) (slice_get-get_or ss i [] (name_within x i at))

  pub large_range : (x i : ℕ) → slice_get cs x ≡ Some (Large i) → (2 ^ 32 ≤ get_or ns i 0) × (get_or ns i 0 < 2 ^ 128)
  large_range x i at = sound.are_naturals.large i (get_or ns i 0) (slice_get-get_or ns i 0 (large_within x i at))

  -- no natural in the heap is out of range
  fits : (n : ℕ) → n < 2 ^ 128 → is_out_of_range (Natural n) ≡ false
  fits n h = ap not (lt-ltb n range h)

  in_range-below : (bound x : ℕ) (c : Cell) → x < bound → slice_get cs x ≡ Some c → is_out_of_range (object_at os x) ≡ false
  in_range-below zero x c l at = absurd (omega arith)
  in_range-below (suc bound) x (Small n) l at = ap is_out_of_range (shown x (Small n) at) ∙ fits n (omega (arith, follows_older x (Small n) at))
  in_range-below (suc bound) x (Large i) l at = ap is_out_of_range (shown x (Large i) at) ∙ fits (get_or ns i 0) (large_range x i at).1
  in_range-below (suc bound) x (Named i) l at = ap is_out_of_range (shown x (Named i) at)
  in_range-below (suc bound) x (Parts a b) l at =
      let older = parts_older x a b at in
      let within = slice_get_within cs x (Parts a b) at in
      let p = slice_get-some cs a (omega (arith, older.0, within)) in
      let q = slice_get-some cs b (omega (arith, older.1, within)) in
      ap is_out_of_range (shown x (Parts a b) at) ∙ ap₂ ◌||◌ (in_range-below bound a p.0 (omega (arith, older.0, l)) p.1) (in_range-below bound b q.0 (omega (arith, older.1, l)) q.1)

  pub in_range : (x : ℕ) (c : Cell) → slice_get cs x ≡ Some c → is_out_of_range (object_at os x) ≡ false
  in_range x c at = in_range-below (suc x) x c (omega arith) at

  -- an index in a list of distinct values is known by its value
  large_same : (i j : ℕ) → i < length ns → j < length ns → get_or ns i 0 ≡ get_or ns j 0 → i ≡ j
  large_same i j p q e = sound.are_naturals.distinct i j p (slice_get-get_or ns i 0 p ∙ (ap Some e ∙ sym (slice_get-get_or ns j 0 q)))

  name_same : (i j : ℕ) → i < length ss → j < length ss → get_or ss i [] ≡ get_or ss j [] → i ≡ j
  name_same i j p q e = sound.are_names.distinct i j p (slice_get-get_or ss i [] p ∙ (ap Some e ∙ sym (slice_get-get_or ss j [] q)))

  -- objects that are equal have equal cells, if those of older parts do
  same_cell : (x y : ℕ) (c d : Cell) → slice_get cs x ≡ Some c → slice_get cs y ≡ Some d → ((a b : ℕ) → a < x → IsIn os b → object_at os a ≡ object_at os b → a ≡ b) → object ns ss os c ≡ object ns ss os d → c ≡ d
  same_cell x y (Small m) (Small n) at_x at_y older e = ap Small (ap number e)
  same_cell x y (Small m) (Large i) at_x at_y older e = absurd (omega (arith, ap number e, follows_older x (Small m) at_x, (large_range y i at_y).0))
  same_cell x y (Small m) (Named i) at_x at_y older e = cc
  same_cell x y (Small m) (Parts a b) at_x at_y older e = cc
  same_cell x y (Large i) (Small n) at_x at_y older e = absurd (omega (arith, ap number e, follows_older y (Small n) at_y, (large_range x i at_x).0))
  same_cell x y (Large i) (Large j) at_x at_y older e = ap Large (large_same i j (large_within x i at_x) (large_within y j at_y) (ap number e))
  same_cell x y (Large i) (Named j) at_x at_y older e = cc
  same_cell x y (Large i) (Parts a b) at_x at_y older e = cc
  same_cell x y (Named i) (Small n) at_x at_y older e = cc
  same_cell x y (Named i) (Large j) at_x at_y older e = cc
  same_cell x y (Named i) (Named j) at_x at_y older e =
      let bytes = sym (bytes-name_of_bytes (get_or ss i []) (name_valid x i at_x)) ∙ (ap (λ o. (name_of o).bytes) e ∙ bytes-name_of_bytes (get_or ss j []) (name_valid y j at_y)) in
      ap Named (name_same i j (name_within x i at_x) (name_within y j at_y) bytes)
  same_cell x y (Named i) (Parts a b) at_x at_y older e = cc
  same_cell x y (Parts a b) (Small n) at_x at_y older e = cc
  same_cell x y (Parts a b) (Large i) at_x at_y older e = cc
  same_cell x y (Parts a b) (Named i) at_x at_y older e = cc
  same_cell x y (Parts a b) (Parts p q) at_x at_y older e =
      let before = parts_older x a b at_x in
      let within = parts_in y p q at_y in
      ap₂ Parts (older a p before.0 within.0 (ap car e)) (older b q before.1 within.1 (ap cdr e))

  distinct-below : (bound x y : ℕ) → x < bound → IsIn os x → IsIn os y → object_at os x ≡ object_at os y → x ≡ y
  distinct-below zero x y l in_x in_y e = absurd (omega arith)
  distinct-below (suc bound) x y l in_x in_y e =
      let c = slice_get-some cs x (omega (arith, in_x, length-cells)) in
      let d = slice_get-some cs y (omega (arith, in_y, length-cells)) in
      let same = same_cell x y c.0 d.0 c.1 d.1 (λ a b before in_b. distinct-below bound a b (omega (arith, before, l)) (omega (arith, before, in_x)) in_b) (sym (shown x c.0 c.1) ∙ (e ∙ shown y d.0 d.1)) in
      sound.are_cells.distinct x y (omega (arith, in_x, length-cells)) (c.1 ∙ (ap Some same ∙ sym d.1))

  -- equal objects are one
  pub distinct_objects : AreDistinct os
  distinct_objects x y in_x in_y e = distinct-below (suc x) x y (omega arith) in_x in_y e

  pub same-object : (x y : ℕ) → IsIn os x → IsIn os y → eqb x y ≡ same_object (object_at os x) (object_at os y)
  same-object x y in_x in_y = go (eqb x y) refl (same_object (object_at os x) (object_at os y)) refl
    where
      go : (b : Bool) → eqb x y ≡ b → (d : Bool) → same_object (object_at os x) (object_at os y) ≡ d → b ≡ d
      go true p true q = refl
      go false p false q = refl
      go true p false q = absurd (both_ways (same_object (object_at os x) (object_at os y)) q (same_object-from _ _ (ap (object_at os) (eqb-true x y p))))
      go false p true q = absurd (both_ways (eqb x y) p (eq-eqb x y (distinct_objects x y in_x in_y (same_object-eq _ _ q))))

  -- a natural below 2^32 has a small cell
  pub small_is : (x n : ℕ) → slice_get cs x ≡ Some (Small n) → IsIn os x × (object_at os x ≡ Natural n)
  small_is x n at = (omega (arith, slice_get_within cs x (Small n) at, length-cells), shown x (Small n) at)

  pub other_is_large : (x : ℕ) (c : Cell) → slice_get cs x ≡ Some c → ((n : ℕ) → c ≡ Small n → ⊥) → (n : ℕ) → object_at os x ≡ Natural n → 2 ^ 32 ≤ n
  other_is_large x (Small m) at other n e = absurd (other m refl)
  other_is_large x (Large i) at other n e = omega (arith, (large_range x i at).0, ap number (sym (shown x (Large i) at) ∙ e))
  other_is_large x (Named i) at other n e = let z : Symbol (name_of_bytes (get_or ss i [])) ≡ Natural n = sym (shown x (Named i) at) ∙ e in cc
  other_is_large x (Parts a b) at other n e = let z : Pair (object_at os a) (object_at os b) ≡ Natural n = sym (shown x (Parts a b) at) ∙ e in cc

  -- a cell that is no pair shows none
  pub other_is_no_pair : (x : ℕ) (c : Cell) → slice_get cs x ≡ Some c → ((a b : ℕ) → c ≡ Parts a b → ⊥) → is_pair (object_at os x) ≡ false
  other_is_no_pair x (Small n) at other = ap is_pair (shown x (Small n) at)
  other_is_no_pair x (Large i) at other = ap is_pair (shown x (Large i) at)
  other_is_no_pair x (Named i) at other = ap is_pair (shown x (Named i) at)
  other_is_no_pair x (Parts a b) at other = absurd (other a b refl)

  -- a symbol's cell has its name
  pub symbol_cell : (x : ℕ) (c : Cell) → slice_get cs x ≡ Some c → is_symbol (object_at os x) ≡ true → ((i : ℕ) → c ≡ Named i → ⊥) → ⊥
  symbol_cell x (Small n) at k other = cc (sym (ap is_symbol (shown x (Small n) at)) ∙ k)
  symbol_cell x (Large i) at k other = cc (sym (ap is_symbol (shown x (Large i) at)) ∙ k)
  symbol_cell x (Named i) at k other = other i refl
  symbol_cell x (Parts a b) at k other = cc (sym (ap is_symbol (shown x (Parts a b) at)) ∙ k)

  pub name_bytes : (x i : ℕ) → slice_get cs x ≡ Some (Named i) → (name_of (object_at os x)).bytes ≡ get_or ss i []
  name_bytes x i at = ap (λ o. (name_of o).bytes) (shown x (Named i) at) ∙ bytes-name_of_bytes (get_or ss i []) (name_valid x i at)

  -- the object of a symbol's cell has the name of the cell's number
  pub symbol_is : (x i : ℕ) (name : List ℕ) → slice_get ss i ≡ Some name → slice_get cs x ≡ Some (Named i) → IsIn os x × (object_at os x ≡ Symbol (name_of_bytes name))
  symbol_is x i name listed at = (
    omega (arith, slice_get_within cs x (Named i) at, length-cells),
    shown x (Named i) at ∙ ap (λ s. Symbol (name_of_bytes s)) (get_or_from_slice_get ss i name [] listed),
  )
