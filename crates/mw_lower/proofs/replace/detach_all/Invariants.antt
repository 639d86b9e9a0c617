-- What is left is detached by what is left of the proofs.
use Rattle.mw_heap.specs.Objects.{IsIn, Grows}
use Rattle.mw_lower.proofs.Premises.{LeavesRest}
use Rattle.mw_lower.proofs.replace.detach_all.Given as goal

abbrev pub invariant-loop-p : goal.invariant-loop-p
invariant-loop-p l = record {
  whole_in : IsIn l.heap.objects l.whole;
  step_in : IsIn l.heap.objects l.step;
  grows : Grows l.fn.heap.objects l.heap.objects;
  left : LeavesRest l.fn.heap.objects l.fn.whole l.fn.step l.proofs l.p-index l.heap.objects l.whole l.step;
}
