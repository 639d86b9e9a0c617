-- Of those before the next one all holds, and their subproofs are found.
use Rattle.std.proofs.Common.{◌≡◌, ℕ, ◌+◌, ◌-◌, ◌<◌, true, length, get_or}
use Rattle.mw_model.specs.Terms.Term.{ArityTable}
use Rattle.mw_heap.specs.Objects.{object_at, Grows}
use Rattle.mw_term.specs.Marking.{AreMarks}
use Rattle.mw_proof.specs.Judging.{basis_over, is_step_on}
use Rattle.mw_proof.proofs.Gathering.{Gathers}
use Rattle.mw_proof.proofs.judging.all_hold.Given as goal

abbrev pub invariant-loop-next : goal.invariant-loop-next
invariant-loop-next g l = record {
  grows : Grows l.fn.heap.objects l.heap.objects;
  gathers : Gathers l.fn.heap.objects l.found.keys l.fn.proof l.next;
  holds : (A : ArityTable) → AreMarks A l.fn.heap.objects l.marks → (i : ℕ) → i < l.next → is_step_on (basis_over l.fn.heap.objects A l.basis) (object_at l.fn.heap.objects (get_or l.found.keys i 0)) ≡ true;
  steps : l.steps ≡ l.fn.steps + l.next;
}

abbrev pub decreases-loop-next : goal.decreases-loop-next
decreases-loop-next g l = length l.fn.heap.objects - l.next
