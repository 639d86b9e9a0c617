-- The rest has as many members as are left exactly where the whole has as many as were asked for.
use Rattle.std.proofs.Common.{◌≡◌}
use Rattle.mw_model.specs.Terms.Object.{has_members}
use Rattle.mw_heap.specs.Objects.{object_at, IsIn}
use Rattle.mw_bad_steps.proofs.lists.has_members.Given as goal

abbrev pub invariant-loop-more : goal.invariant-loop-more
invariant-loop-more l = record {
  within : IsIn l.heap.objects l.rest;
  same : has_members l.left (object_at l.heap.objects l.rest) ≡ has_members l.fn.count (object_at l.heap.objects l.fn.x);
}

abbrev pub decreases-loop-more : goal.decreases-loop-more
decreases-loop-more l = l.rest
