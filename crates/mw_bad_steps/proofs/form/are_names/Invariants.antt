-- The rest are names exactly where the whole are.
use Rattle.std.proofs.Common.{◌≡◌}
use Rattle.mw_heap.specs.Objects.{object_at, IsIn}
use Rattle.mw_bad_steps.specs.Forms.{are_names}
use Rattle.mw_bad_steps.proofs.form.are_names.Given as goal

abbrev pub invariant-loop-name : goal.invariant-loop-name
invariant-loop-name l = record {
  within : IsIn l.heap.objects l.rest;
  same : are_names (object_at l.heap.objects l.rest) ≡ are_names (object_at l.heap.objects l.fn.x);
}

abbrev pub decreases-loop-name : goal.decreases-loop-name
decreases-loop-name l = l.rest
