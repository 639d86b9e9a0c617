-- What has been passed leaves the rest to tell.
use Rattle.std.proofs.Common.{◌≡◌, ◌≤◌}
use Rattle.mw_model.specs.Laws.Ordinal.{is_ordinal}
use Rattle.mw_heap.specs.Objects.{object_at, IsIn}
use Rattle.mw_ordinal.proofs.heap_order.+is_ordinal.Given as goal

abbrev pub decreases-is_ordinal : goal.decreases-is_ordinal
decreases-is_ordinal l = l.x

abbrev pub invariant-loop-term : goal.invariant-loop-term
invariant-loop-term l = record {
  within : IsIn l.heap.objects l.rest;
  older : l.rest ≤ l.fn.x;
  tells : is_ordinal (object_at l.heap.objects l.rest) ≡ is_ordinal (object_at l.heap.objects l.fn.x);
}

abbrev pub decreases-loop-term : goal.decreases-loop-term
decreases-loop-term l = l.rest
