-- The two that are compared are so where the first two are.
use Rattle.std.proofs.Common.{◌≡◌}
use Rattle.mw_model.specs.Laws.Ordinal.{is_below}
use Rattle.mw_heap.specs.Objects.{object_at, IsIn}
use Rattle.mw_ordinal.proofs.heap_order.ordinal_less.Given as goal

abbrev pub invariant-loop-below : goal.invariant-loop-below
invariant-loop-below l = record {
  x_in : IsIn l.heap.objects l.x;
  y_in : IsIn l.heap.objects l.y;
  tells : is_below (object_at l.heap.objects l.x) (object_at l.heap.objects l.y) ≡ is_below (object_at l.heap.objects l.fn.x) (object_at l.heap.objects l.fn.y);
}

abbrev pub decreases-loop-below : goal.decreases-loop-below
decreases-loop-below l = l.x
