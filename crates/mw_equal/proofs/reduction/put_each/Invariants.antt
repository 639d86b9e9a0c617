-- The pairs so far stand before those of what is left.
use Rattle.std.proofs.Common.{◌≡◌}
use Rattle.mw_model.specs.Laws.Rules.{actuals_object}
use Rattle.mw_heap.specs.Objects.{object_at, IsIn}
use Rattle.mw_heap.specs.Parts.{part_at}
use Rattle.mw_subst.specs.Sigma.{AreIn}
use Rattle.mw_subst.proofs.PairLists.{pairs_before}
use Rattle.mw_equal.proofs.reduction.put_each.Given as goal

abbrev pub invariant-loop-x : goal.invariant-loop-x
invariant-loop-x l =
    let o = object_at l.heap.objects in
    IsIn l.heap.objects l.formals × IsIn l.heap.objects l.arguments × AreIn l.heap.objects l.sigma × (pairs_before l.heap.objects l.sigma (actuals_object (o l.formals) (o l.arguments)) ≡ actuals_object (part_at l.heap.objects l.fn.formals) (o l.fn.arguments))

abbrev pub decreases-loop-x : goal.decreases-loop-x
decreases-loop-x l = l.formals
