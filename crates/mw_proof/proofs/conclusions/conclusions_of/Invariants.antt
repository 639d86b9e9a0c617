-- The conclusions up to the rest of the list, whose objects are found.
use Rattle.mw_proof.proofs.Collecting.{Collects}
use Rattle.mw_proof.proofs.Gathering.{Walks}
use Rattle.mw_proof.proofs.conclusions.conclusions_of.Given as goal

abbrev pub invariant-loop-p : goal.invariant-loop-p
invariant-loop-p l = Collects l.heap.objects l.marks l.most l.fn.subproofs l.rest l.conclusions.items × Walks l.heap.objects l.fn.found.keys l.found.keys l.fn.subproofs l.rest

abbrev pub decreases-loop-p : goal.decreases-loop-p
decreases-loop-p l = l.rest
