-- What is left of the list decides.
use Rattle.std.proofs.Common.{◌≡◌, ◌<◌, length}
use Rattle.mw_model.specs.Terms.Term.{ArityTable}
use Rattle.mw_model.specs.Laws.RulesInduction.{are_substitution_objects}
use Rattle.mw_heap.specs.Objects.{object_at, IsIn}
use Rattle.mw_term.specs.Marking.{AreMarks}
use Rattle.mw_induct.proofs.cases.are_substitutions.Given as goal

abbrev pub invariant-loop-s : goal.invariant-loop-s
invariant-loop-s l = IsIn l.heap.objects l.rest × (l.rest < length l.marks) × ((A : ArityTable) → AreMarks A l.heap.objects l.marks → are_substitution_objects A (object_at l.heap.objects l.fn.x) ≡ are_substitution_objects A (object_at l.heap.objects l.rest))

abbrev pub decreases-loop-s : goal.decreases-loop-s
decreases-loop-s l = l.rest
