-- The pairs were met as often as they stand in what was entered.
use Rattle.mw_print.proofs.Meeting.{IsCounting, path_weight}
use Rattle.mw_print.proofs.repeats.find_repeats.Given as goal

abbrev pub invariant-loop-y : goal.invariant-loop-y
invariant-loop-y l = IsCounting l.heap.objects l.fn.x l.path.items l.seen.keys l.again.keys

abbrev pub decreases-loop-y : goal.decreases-loop-y
decreases-loop-y l = path_weight l.heap.objects l.path.items
