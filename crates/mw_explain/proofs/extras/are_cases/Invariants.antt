-- The rest are cases exactly where the whole are.
use Rattle.std.proofs.Common.{◌≡◌, ◌<◌, length}
use Rattle.mw_model.specs.Terms.Term.{ArityTable}
use Rattle.mw_heap.specs.Objects.{object_at, IsIn}
use Rattle.mw_term.specs.Marking.{AreMarks}
use Rattle.mw_explain.specs.Extras.{are_cases_at}
use Rattle.mw_explain.proofs.extras.are_cases.Given as goal

abbrev pub invariant-loop-condition : goal.invariant-loop-condition
invariant-loop-condition l = record {
  objects : l.heap.objects ≡ l.fn.heap.objects;
  conditions_in : IsIn l.fn.heap.objects l.conditions;
  cases_in : IsIn l.fn.heap.objects l.cases;
  marked : l.cases < length l.marks;
  same : (A : ArityTable) → AreMarks A l.fn.heap.objects l.marks → are_cases_at A (object_at l.fn.heap.objects l.conditions) (object_at l.fn.heap.objects l.cases) ≡ are_cases_at A (object_at l.fn.heap.objects l.fn.conditions) (object_at l.fn.heap.objects l.fn.cases);
}

abbrev pub decreases-loop-condition : goal.decreases-loop-condition
decreases-loop-condition l = l.conditions
