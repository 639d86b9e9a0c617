-- What is left of the list has as many members as are still to come.
use Rattle.std.proofs.Common.{◌≡◌, ◌-◌}
use Rattle.mw_model.specs.Terms.Object.{has_members}
use Rattle.mw_heap.specs.Objects.{object_at, IsIn}
use Rattle.mw_slice.proofs.event.has_members.Given as goal

abbrev pub invariant-loop : goal.invariant-loop
invariant-loop l = IsIn l.heap.objects l.list × (has_members (l.count - l.counter) (object_at l.heap.objects l.list) ≡ has_members l.count (object_at l.heap.objects l.fn.list))
