-- The pairs from k on are listed.
use Rattle.mw_taut.proofs.Choosing.{IsChoosing}
use Rattle.mw_taut.proofs.choice.choice_list.Given as goal

abbrev pub invariant-loop-k : goal.invariant-loop-k
invariant-loop-k l = IsChoosing l.fn.heap.objects l.equations l.chosen l.heap.objects l.list l.k

abbrev pub decreases-loop-k : goal.decreases-loop-k
decreases-loop-k l = l.k
