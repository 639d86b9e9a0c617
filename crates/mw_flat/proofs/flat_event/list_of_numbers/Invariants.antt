-- The numbers from the index on are listed.
use Rattle.std.proofs.Common.{◌≡◌, drop}
use Rattle.mw_heap.specs.Objects.{object_at, IsIn}
use Rattle.mw_flat.specs.FlatEvents.{numbers_object}
use Rattle.mw_flat.proofs.flat_event.list_of_numbers.Given as goal

abbrev pub invariant-loop-index : goal.invariant-loop-index
invariant-loop-index l =
    IsIn l.heap.objects l.list
    × (object_at l.heap.objects l.list ≡ numbers_object (drop l.index l.numbers))
