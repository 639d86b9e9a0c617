-- The conclusions so far, before the rest of the list.
use Rattle.mw_flat.proofs.ByNumber.{ListedSoFar}
use Rattle.mw_flat.proofs.numbered.listed.Given as goal

abbrev pub invariant-loop-first : goal.invariant-loop-first
invariant-loop-first l = ListedSoFar l.heap.objects l.fn.conclusions l.fn.numbers l.found.items l.rest

abbrev pub decreases-loop-first : goal.decreases-loop-first
decreases-loop-first l = l.rest
