-- What a heap's cells mean: each its object over the whole heap, more cells change no older object, and a cut cuts the objects.
use Rattle.std.proofs.Common.{◌≡◌, ℕ, suc, ◌+◌, ◌≤◌, Some, List, [], ◌∷◌, ◌++◌, length, take, drop, get_or, slice_get, refl, sym, ap, ap₂, ◌∙◌, arith, length-append, append_assoc, append-nil}
use Rattle.std.proofs.Math.Seq.{get_or-append_seam, take-append_seam}
use Rattle.std.proofs.lemmas.List.{get_or_append_left, take-append-drop, length-take-le}
use Rattle.std.proofs.lemmas.Option.{slice_get_within}
use Rattle.mw_model.specs.Terms.Object.{Object, Natural, Symbol, Pair, NIL, name_of_bytes}
use Rattle.mw_heap.specs.declared.store.cell.Cell.{Cell}
use Rattle.mw_heap.specs.declared.store.cell.Cell.TheVariants.{Small, Large, Symbol as Named, Pair as Parts}
use Rattle.mw_heap.specs.Objects.{object_at}
use Rattle.mw_heap.specs.Cells.{object, objects_after, objects, MayFollow, natural_count, name_count, is_large, is_named}
use Rattle.mw_heap.proofs.Lists.{split_at}
use Rattle.mw_heap.proofs.Counts.{count_of-take-lt}

module _ (ns : List ℕ) (ss : List (List ℕ)) where
  -- a cell at the end is its object over those before it
  pub objects_after-push : (older : List Object) (cs : List Cell) (c : Cell) → objects_after ns ss older (cs ++ c ∷ []) ≡ objects_after ns ss older cs ++ object ns ss (objects_after ns ss older cs) c ∷ []
  objects_after-push older [] c = refl
  objects_after-push older (d ∷ cs) c = objects_after-push (older ++ object ns ss older d ∷ []) cs c

  pub objects_after-append : (older : List Object) (cs ds : List Cell) → objects_after ns ss older (cs ++ ds) ≡ objects_after ns ss (objects_after ns ss older cs) ds
  objects_after-append older [] ds = refl
  objects_after-append older (c ∷ cs) ds = objects_after-append (older ++ object ns ss older c ∷ []) cs ds

  pub length-objects_after : (older : List Object) (cs : List Cell) → length (objects_after ns ss older cs) ≡ length older + length cs
  length-objects_after older [] = omega arith
  length-objects_after older (c ∷ cs) = omega (arith, length-objects_after (older ++ object ns ss older c ∷ []) cs, length-append older (object ns ss older c ∷ []))

  pub length-objects : (cs : List Cell) → length (objects ns ss cs) ≡ length cs
  length-objects cs = omega (arith, length-objects_after [] cs)

  -- the older objects stay
  pub objects_after-more : (older : List Object) (cs : List Cell) → (more : List Object) × (objects_after ns ss older cs ≡ older ++ more)
  objects_after-more older [] = ([], sym (append-nil older))
  objects_after-more older (c ∷ cs) =
      let r = objects_after-more (older ++ object ns ss older c ∷ []) cs in
      (object ns ss older c ∷ r.0, r.1 ∙ append_assoc older (object ns ss older c ∷ []) r.0)

  -- a cell's object needs no object after it
  pub object-append : (cs : List Cell) (c : Cell) (older more : List Object) → MayFollow cs c → length older ≡ length cs → object ns ss (older ++ more) c ≡ object ns ss older c
  object-append cs (Small n) older more f e = refl
  object-append cs (Large i) older more f e = refl
  object-append cs (Named i) older more f e = refl
  object-append cs (Parts a b) older more f e =
      ap₂ Pair (get_or_append_left older more NIL a (omega (arith, e, f.0))) (get_or_append_left older more NIL b (omega (arith, e, f.1)))

  -- a cell's object, over the whole heap
  pub object_at-objects : (cs : List Cell) (i : ℕ) (c : Cell) → slice_get cs i ≡ Some c → MayFollow (take i cs) c → object_at (objects ns ss cs) i ≡ object ns ss (objects ns ss cs) c
  object_at-objects cs i c at f =
      let below = objects ns ss (take i cs) in
      let rest = objects_after-more (below ++ object ns ss below c ∷ []) (drop (suc i) cs) in
      let whole : objects ns ss cs ≡ below ++ (object ns ss below c ∷ rest.0) =
      ap (objects ns ss) (split_at cs i c at) ∙ (objects_after-append [] (take i cs) (c ∷ drop (suc i) cs) ∙ (rest.1 ∙ append_assoc below (object ns ss below c ∷ []) rest.0)) in
      let cut : length (take i cs) ≡ i = length-take-le i cs (omega (arith, slice_get_within cs i c at)) in
      let full : length below ≡ i = length-objects (take i cs) ∙ cut in
      ap (λ os. get_or os i NIL) whole
      ∙ (ap (λ k. get_or (below ++ (object ns ss below c ∷ rest.0)) k NIL) (sym full)
      ∙ (get_or-append_seam below (object ns ss below c) rest.0 NIL
      ∙ (sym (object-append (take i cs) c below (object ns ss below c ∷ rest.0) f (length-objects (take i cs))) ∙ ap (λ os. object ns ss os c) (sym whole))))

  pub objects-take : (n : ℕ) (cs : List Cell) → n ≤ length cs → objects ns ss (take n cs) ≡ take n (objects ns ss cs)
  objects-take n cs h =
      let kept = objects ns ss (take n cs) in
      let rest = objects_after-more kept (drop n cs) in
      let whole : objects ns ss cs ≡ kept ++ rest.0 =
      ap (objects ns ss) (sym (take-append-drop n cs)) ∙ (objects_after-append [] (take n cs) (drop n cs) ∙ rest.1) in
      let full : length kept ≡ n = length-objects (take n cs) ∙ length-take-le n cs h in
      sym (ap (take n) whole ∙ (ap (λ k. take k (kept ++ rest.0)) (sym full) ∙ take-append_seam kept rest.0))

module _ (ns ms : List ℕ) (ss ts : List (List ℕ)) where
  -- other naturals and names that mean the same at each cell
  pub objects_after-same : (older : List Object) (cs : List Cell) → ((i : ℕ) (c : Cell) → slice_get cs i ≡ Some c → (os : List Object) → object ns ss os c ≡ object ms ts os c) → objects_after ns ss older cs ≡ objects_after ms ts older cs
  objects_after-same older [] same = refl
  objects_after-same older (c ∷ cs) same =
      ap (λ x. objects_after ns ss (older ++ x ∷ []) cs) (same 0 c refl older) ∙ objects_after-same (older ++ object ms ts older c ∷ []) cs (λ i d at. same (suc i) d at)

-- more naturals and names change no object
pub objects-more : (ns ms : List ℕ) (ss ts : List (List ℕ)) (cs : List Cell) → ((i : ℕ) (c : Cell) → slice_get cs i ≡ Some c → MayFollow (take i cs) c) → natural_count cs ≡ length ns → name_count cs ≡ length ss → objects (ns ++ ms) (ss ++ ts) cs ≡ objects ns ss cs
objects-more ns ms ss ts cs order all_ns all_ss = objects_after-same (ns ++ ms) ns (ss ++ ts) ss [] cs same
  where
    same_at : (i : ℕ) (c : Cell) → slice_get cs i ≡ Some c → MayFollow (take i cs) c → (os : List Object) → object (ns ++ ms) (ss ++ ts) os c ≡ object ns ss os c
    same_at i (Small n) at f os = refl
    same_at i (Large k) at f os = ap Natural (get_or_append_left ns ms 0 k (omega (arith, f, all_ns, count_of-take-lt is_large cs i (Large k) at refl)))
    same_at i (Named k) at f os = ap (λ s. Symbol (name_of_bytes s)) (get_or_append_left ss ts [] k (omega (arith, f, all_ss, count_of-take-lt is_named cs i (Named k) at refl)))
    same_at i (Parts a b) at f os = refl

    same : (i : ℕ) (c : Cell) → slice_get cs i ≡ Some c → (os : List Object) → object (ns ++ ms) (ss ++ ts) os c ≡ object ns ss os c
    same i c at os = same_at i c at (order i c at) os
