-- What the derivations up to the next one become.
use Rattle.std.proofs.Common.{take}
use Rattle.mw_model.specs.Terms.Term.{ArityTable}
use Rattle.mw_heap.specs.Objects.{Grows}
use Rattle.mw_term.specs.Marking.{AreMarks}
use Rattle.mw_proof.specs.Judging.{basis_over}
use Rattle.mw_lower.proofs.Walking.{AreTurned}
use Rattle.mw_lower.proofs.walk.turn_all.Given as goal

abbrev pub invariant-loop-p : goal.invariant-loop-p
invariant-loop-p l = record {
  grows : Grows l.initial.heap.objects l.heap.objects;
  turned : (A : ArityTable) → AreMarks A l.initial.heap.objects l.marks → AreTurned (basis_over l.initial.heap.objects A l.basis) l.heap.objects l.turned.entries (take l.p-index l.parts);
}
