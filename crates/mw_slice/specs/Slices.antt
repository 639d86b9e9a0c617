-- What clauses see of a slicer: the objects of its heaps, and the events, each by its heap and its reference there.
use Rattle.std.specs.Prelude.{◌≡◌, ℕ, List, map, get_or, refl}
use Rattle.std.specs.Coded.{Coded, code_by, coded_list, coded×, coded_ℕ}
use Rattle.mw_model.specs.Terms.Object.{Object, NIL}
use Rattle.mw_heap.specs.Code.{coded_object}
use Rattle.mw_heap.specs.Objects.{object_at, IsIn}
use Rattle.mw_slice.specs.declared.added.Added.{Added}
use Rattle.mw_slice.specs.Heaps.{heap_of}

pub record Slices : Type 0 where
  pub heaps : List (List Object)
  pub events : List (ℕ × ℕ)

abbrev pub coded_slices : Coded Slices
coded_slices = code_by (List (List Object) × List (ℕ × ℕ)) (coded× (coded_list (coded_list coded_object)) (coded_list (coded× coded_ℕ coded_ℕ))) (λ s. (s.heaps, s.events)) (λ p. record { heaps = p.0; events = p.1 }) (λ s. refl)

-- the objects of the heap of the event at a place
abbrev pub heap_at : Slices → ℕ → List Object
heap_at s j = heap_of s.heaps (get_or s.events j (0, 0)).0

-- the events in the order in which they were added
abbrev pub events_of : Slices → List Object
events_of s = map (λ p. object_at (heap_of s.heaps p.0) p.1) s.events

-- where the events stand
abbrev pub places_of : List Added → List (ℕ × ℕ)
places_of added = map (λ a. (a.heap, a.event)) added

-- the reference is to NIL
abbrev pub IsNil : List Object → ℕ → Type 0
IsNil os nil = IsIn os nil × (object_at os nil ≡ NIL)
