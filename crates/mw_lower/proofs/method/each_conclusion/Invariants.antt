-- The conclusions of the proofs up to the next one.
use Rattle.mw_lower.proofs.Premises.{Concludes}
use Rattle.mw_lower.proofs.method.each_conclusion.Given as goal

abbrev pub invariant-loop-p : goal.invariant-loop-p
invariant-loop-p l = Concludes l.heap.objects l.proofs l.p-index l.conclusions.items
