-- The members from the index on stand before the last one.
use Rattle.std.proofs.Common.{◌≡◌, drop}
use Rattle.mw_model.specs.Terms.Object.{list1}
use Rattle.mw_heap.specs.Objects.{object_at, IsIn}
use Rattle.mw_flat.specs.FlatEvents.{put_before}
use Rattle.mw_flat.proofs.flat_event.event_with.Given as goal

abbrev pub invariant-loop-index : goal.invariant-loop-index
invariant-loop-index l =
    IsIn l.to.objects l.list
    × (object_at l.to.objects l.list ≡ put_before l.from.objects (drop l.index l.members) (list1 (object_at l.fn.to.objects l.fn.last)))
