-- A heap that grows or is cut keeps the lengths of its objects.
use Rattle.std.proofs.Common.{◌≡◌, ℕ, List, [], ◌∷◌, ◌++◌, length, map, refl, sym, ap, ◌∙◌, ◌⊎◌, inl, inr, Result, Ok, Err, OnOk, OnErr}
use Rattle.std.proofs.lemmas.List.{map-append, append-nil, length-map}
use Rattle.mw_heap.specs.declared.store.cell.Cell.{Cell}
use Rattle.mw_heap.specs.declared.store.lengths.Length.{Length}
use Rattle.mw_heap.specs.Cells.{object, objects, IsSound}
use Rattle.mw_heap.specs.Inserted.{Inserts}
use Rattle.mw_heap.specs.Lengths.{length_of, Measures}
use Rattle.mw_heap.proofs.Growth.{length-objects, objects_after-push, objects-more}

-- naturals and names that were listed since change no object
pub objects-listed_natural : (ns ms : List ℕ) (ss : List (List ℕ)) (cs : List Cell) (n i : ℕ) → IsSound ns ss cs → Inserts ns ms n i → objects ms ss cs ≡ objects ns ss cs
objects-listed_natural ns ms ss cs n i sound listed = go listed.change
  where
    go : (ms ≡ ns) ⊎ (ms ≡ ns ++ n ∷ []) → objects ms ss cs ≡ objects ns ss cs
    go (inl e) = ap (λ l. objects l ss cs) e
    go (inr e) =
        ap (λ l. objects l ss cs) e ∙ (ap (λ l. objects (ns ++ n ∷ []) l cs) (sym (append-nil ss)) ∙ objects-more ns (n ∷ []) ss [] cs sound.are_cells.in_order sound.all_naturals sound.all_names)

pub objects-listed_name : (ns : List ℕ) (ss ts : List (List ℕ)) (cs : List Cell) (s : List ℕ) (i : ℕ) → IsSound ns ss cs → Inserts ss ts s i → objects ns ts cs ≡ objects ns ss cs
objects-listed_name ns ss ts cs s i sound listed = go listed.change
  where
    go : (ts ≡ ss) ⊎ (ts ≡ ss ++ s ∷ []) → objects ns ts cs ≡ objects ns ss cs
    go (inl e) = ap (λ l. objects ns l cs) e
    go (inr e) =
        ap (λ l. objects ns l cs) e ∙ (ap (λ l. objects l (ss ++ s ∷ []) cs) (sym (append-nil ns)) ∙ objects-more ns [] ss (s ∷ []) cs sound.are_cells.in_order sound.all_naturals sound.all_names)

-- the lengths after an insertion, where the objects of the old cells stayed
pub measured-after : (ns ms : List ℕ) (ss ts : List (List ℕ)) (old new : List Cell) (lengths lengths' : List Length) (c : Cell)
    → objects ms ts old ≡ objects ns ss old → lengths ≡ map length_of (objects ns ss old) → Measures ms ts old new lengths lengths' c → lengths' ≡ map length_of (objects ms ts new)
measured-after ns ms ss ts old new lengths lengths' c stay are m = go m
  where
    go : Measures ms ts old new lengths lengths' c → lengths' ≡ map length_of (objects ms ts new)
    go (inl p) = p.1 ∙ (are ∙ (ap (map length_of) (sym stay) ∙ ap (λ l. map length_of (objects ms ts l)) (sym p.0)))
    go (inr p) =
        let older = objects ms ts old in
        let olds : lengths ≡ map length_of older = are ∙ ap (map length_of) (sym stay) in
        p.2 ∙ ((λ j. olds j ++ p.3 older olds j ∷ [])
        ∙ (sym (map-append length_of older (object ms ts older c ∷ [])) ∙ (ap (map length_of) (sym (objects_after-push ms ts [] old c)) ∙ ap (λ l. map length_of (objects ms ts l)) (sym p.0))))

-- the same for what an insertion comes to
pub measured-result : {E : Type 0} (ns : List ℕ) (ss : List (List ℕ)) (old new : List Cell) (lengths lengths' : List Length) (c : Cell) (result : Result ℕ E)
    → lengths ≡ map length_of (objects ns ss old) → OnOk result (Measures ns ss old new lengths lengths' c) → OnErr result (new ≡ old) → OnErr result (lengths' ≡ lengths) → lengths' ≡ map length_of (objects ns ss new)
measured-result ns ss old new lengths lengths' c (Ok r) are m e f = measured-after ns ns ss ss old new lengths lengths' c refl are m
measured-result ns ss old new lengths lengths' c (Err x) are m e f = f ∙ (are ∙ ap (λ l. map length_of (objects ns ss l)) (sym e))

pub length-measured : (ns : List ℕ) (ss : List (List ℕ)) (cs : List Cell) (lengths : List Length) → lengths ≡ map length_of (objects ns ss cs) → length lengths ≡ length cs
length-measured ns ss cs lengths h = ap length h ∙ (length-map (objects ns ss cs) length_of ∙ length-objects ns ss cs)
