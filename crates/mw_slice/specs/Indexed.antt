-- What clauses see of a heap with an index.
use Rattle.std.specs.Prelude.{◌≡◌, ℕ, List}
use Rattle.mw_model.specs.Terms.Object.{Object}
use Rattle.mw_slice.specs.declared.indexed.IndexedHeap.{IndexedHeap}
use Rattle.mw_slice.specs.Firsts.{AreFirsts}
use Rattle.mw_slice.specs.Slices.{IsNil}

abbrev pub objects_in : IndexedHeap → List Object
objects_in h = h.heap.now.objects

abbrev pub firsts_in : IndexedHeap → List (ℕ × ℕ)
firsts_in h = h.firsts.now.entries

-- the reference to NIL and those of the index are right
abbrev pub IsIndexed : IndexedHeap → Type 0
IsIndexed h = IsNil (objects_in h) h.nil × AreFirsts (objects_in h) (firsts_in h)
