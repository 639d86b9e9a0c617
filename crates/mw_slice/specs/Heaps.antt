-- Heaps, each seen as the list of its objects, and events that stand in them.
use Rattle.std.specs.Prelude.{◌≡◌, ℕ, ◌<◌, ◌≤◌, eqb, cond, List, [], ◌∷◌, length, map, get_or, take}
use Rattle.mw_model.specs.Terms.Object.{Object}
use Rattle.mw_heap.specs.Contents.{Contents}
use Rattle.mw_heap.specs.Objects.{object_at, IsIn, Grows}
use Rattle.mw_slice.specs.declared.added.Added.{Added}

abbrev pub objects_each : List Contents → List (List Object)
objects_each heaps = map (λ h. h.objects) heaps

-- the objects of the heap at a place; none where there is no heap
abbrev pub heap_of : List (List Object) → ℕ → List Object
heap_of hs k = get_or hs k []

-- nothing in any of the heaps means anything else
abbrev pub AllGrow : List (List Object) → List (List Object) → Type 0
AllGrow old new = (k : ℕ) → k < length old → (k < length new) × Grows (heap_of old k) (heap_of new k)

-- none of the heaps has changed
abbrev pub AllStay : List (List Object) → List (List Object) → Type 0
AllStay old new = (k : ℕ) → k < length old → (k < length new) × (heap_of new k ≡ heap_of old k)

-- the event, and what its heap was before it, stand in one of the heaps
pub record IsPlaced (hs : List (List Object)) (a : Added) : Type 0 where
  pub heap : a.heap < length hs
  pub within : IsIn (heap_of hs a.heap) a.event
  pub start : a.start ≤ length (heap_of hs a.heap)

-- The event was copied after what stood in its heap.
pub record IsNew (old new : List (List Object)) (a : Added) : Type 0 where
  pub placed : IsPlaced new a
  pub after : length (heap_of old a.heap) ≤ a.start

abbrev pub object_in : List (List Object) → Added → Object
object_in hs a = object_at (heap_of hs a.heap) a.event

-- the heap at a place was cut back, and no other has changed
pub record IsCut (old new : List (List Object)) (place to : ℕ) : Type 0 where
  pub as_many : length new ≡ length old
  pub cut : (k : ℕ) → heap_of new k ≡ cond (eqb k place) (take to (heap_of old k)) (heap_of old k)

-- of two events in one heap the first stands before the start of the second
abbrev pub Precedes : Added → Added → Type 0
Precedes a b = a.heap ≡ b.heap → (a.event < b.start) × (a.start ≤ b.start)

abbrev pub PrecedesEach : Added → List Added → Type 0
PrecedesEach a [] = Unit {0}
PrecedesEach a (b ∷ later) = Precedes a b × PrecedesEach a later

-- The events stand in the heaps, each before those that were added later.
abbrev pub AreInOrder : List (List Object) → List Added → Type 0
AreInOrder hs [] = Unit {0}
AreInOrder hs (a ∷ later) = IsPlaced hs a × PrecedesEach a later × AreInOrder hs later
