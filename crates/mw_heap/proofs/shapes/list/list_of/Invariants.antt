-- The members from the index on are listed.
use Rattle.std.proofs.Common.{◌≡◌, drop}
use Rattle.mw_heap.specs.Objects.{object_at, IsIn, Grows}
use Rattle.mw_heap.specs.Lists.{list_object}
use Rattle.mw_heap.proofs.shapes.list.list_of.Given as goal

abbrev pub invariant-loop-index : goal.invariant-loop-index
invariant-loop-index l =
    Grows l.fn.heap.objects l.heap.objects
    × IsIn l.heap.objects l.list
    × (object_at l.heap.objects l.list ≡ list_object l.fn.heap.objects (drop l.index l.members))
