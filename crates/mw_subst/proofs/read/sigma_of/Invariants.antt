-- The pairs so far stand before what is left.
use Rattle.std.proofs.Common.{◌≡◌, true}
use Rattle.mw_heap.specs.Objects.{object_at, IsIn}
use Rattle.mw_subst.specs.Sigma.{AreIn}
use Rattle.mw_subst.specs.Pairs.{is_list_of_pairs}
use Rattle.mw_subst.proofs.PairLists.{pairs_before}
use Rattle.mw_subst.proofs.read.sigma_of.Given as goal

abbrev pub invariant-loop-pair : goal.invariant-loop-pair
invariant-loop-pair l = IsIn l.heap.objects l.rest × AreIn l.heap.objects l.sigma × (is_list_of_pairs (object_at l.heap.objects l.rest) ≡ true) × (pairs_before l.heap.objects l.sigma (object_at l.heap.objects l.rest) ≡ object_at l.heap.objects l.fn.s)

abbrev pub decreases-loop-pair : goal.decreases-loop-pair
decreases-loop-pair l = l.rest
