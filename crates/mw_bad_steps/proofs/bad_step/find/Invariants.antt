-- What is open and what is known to be good, over the objects at the start.
use Rattle.mw_model.specs.Terms.Term.{ArityTable}
use Rattle.mw_heap.specs.Objects.{Grows}
use Rattle.mw_term.specs.Marking.{AreMarks}
use Rattle.mw_proof.specs.Gathered.{AreIn}
use Rattle.mw_proof.specs.Judging.{basis_over}
use Rattle.mw_bad_steps.proofs.Paths.{EachOpen, IsLooking}
use Rattle.mw_bad_steps.proofs.LookingSizes.{path_size}
use Rattle.mw_bad_steps.proofs.bad_step.find.Given as goal

abbrev pub invariant-loop-last : goal.invariant-loop-last
invariant-loop-last l = record {
  grows : Grows l.fn.heap.objects l.heap.objects;
  within : EachOpen l.fn.heap.objects l.path.items;
  found : AreIn l.fn.heap.objects l.found.keys;
  looks : (A : ArityTable) → AreMarks A l.fn.heap.objects l.marks → IsLooking (basis_over l.fn.heap.objects A l.basis) l.fn.heap.objects l.fn.proof l.good.keys l.path.items;
}

abbrev pub decreases-loop-last : goal.decreases-loop-last
decreases-loop-last l = path_size l.path.items
