-- What stands in the place of the members up to the rest.
use Rattle.mw_lower.proofs.Members.{Replaces}
use Rattle.mw_lower.proofs.subproofs.turned_members.Given as goal

abbrev pub invariant-loop-p : goal.invariant-loop-p
invariant-loop-p l = Replaces l.heap.objects l.turned.entries l.fn.list l.rest l.proofs.items

abbrev pub decreases-loop-p : goal.decreases-loop-p
decreases-loop-p l = l.rest
