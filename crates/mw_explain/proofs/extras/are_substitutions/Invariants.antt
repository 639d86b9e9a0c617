-- The rest are substitutions exactly where the whole are.
use Rattle.std.proofs.Common.{◌≡◌, ◌<◌, length}
use Rattle.mw_model.specs.Terms.Term.{ArityTable}
use Rattle.mw_model.specs.Laws.RulesInduction.{are_substitution_objects}
use Rattle.mw_heap.specs.Objects.{object_at, IsIn}
use Rattle.mw_term.specs.Marking.{AreMarks}
use Rattle.mw_explain.proofs.extras.are_substitutions.Given as goal

abbrev pub invariant-loop-s : goal.invariant-loop-s
invariant-loop-s l = record {
  objects : l.heap.objects ≡ l.fn.heap.objects;
  within : IsIn l.fn.heap.objects l.rest;
  marked : l.rest < length l.marks;
  same : (A : ArityTable) → AreMarks A l.fn.heap.objects l.marks → are_substitution_objects A (object_at l.fn.heap.objects l.rest) ≡ are_substitution_objects A (object_at l.fn.heap.objects l.fn.x);
}

abbrev pub decreases-loop-s : goal.decreases-loop-s
decreases-loop-s l = l.rest
