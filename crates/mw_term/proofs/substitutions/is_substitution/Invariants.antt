-- What is left of the list decides.
use Rattle.std.proofs.Common.{◌≡◌, ◌<◌, length}
use Rattle.mw_model.specs.Terms.Term.{ArityTable}
use Rattle.mw_model.specs.Laws.Rules.{is_substitution_object}
use Rattle.mw_heap.specs.Objects.{object_at, IsIn}
use Rattle.mw_term.specs.Marking.{AreMarks}
use Rattle.mw_term.proofs.substitutions.is_substitution.Given as goal

abbrev pub invariant-loop-pair : goal.invariant-loop-pair
invariant-loop-pair l = IsIn l.heap.objects l.rest × (l.rest < length l.marks) × ((A : ArityTable) → AreMarks A l.heap.objects l.marks → is_substitution_object A (object_at l.heap.objects l.fn.s) ≡ is_substitution_object A (object_at l.heap.objects l.rest))

abbrev pub decreases-loop-pair : goal.decreases-loop-pair
decreases-loop-pair l = l.rest
