-- The formals so far, before the rest of the list.
use Rattle.mw_term.proofs.FormalList.{AreBefore}
use Rattle.mw_term.proofs.formals.add_formals.Given as goal

abbrev pub invariant-loop-first : goal.invariant-loop-first
invariant-loop-first l = AreBefore l.heap.objects l.fn.x l.formals.keys l.rest

abbrev pub decreases-loop-first : goal.decreases-loop-first
decreases-loop-first l = l.rest
