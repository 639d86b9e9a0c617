-- The rest is a list exactly where the whole is.
use Rattle.std.proofs.Common.{◌≡◌}
use Rattle.mw_model.specs.Laws.RulesInduction.{is_list_object}
use Rattle.mw_heap.specs.Objects.{object_at, IsIn}
use Rattle.mw_bad_steps.proofs.lists.is_list.Given as goal

abbrev pub invariant-loop-more : goal.invariant-loop-more
invariant-loop-more l = record {
  within : IsIn l.heap.objects l.rest;
  same : is_list_object (object_at l.heap.objects l.rest) ≡ is_list_object (object_at l.heap.objects l.fn.x);
}

abbrev pub decreases-loop-more : goal.decreases-loop-more
decreases-loop-more l = l.rest
