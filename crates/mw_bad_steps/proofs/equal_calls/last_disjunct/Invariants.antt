-- The rest ends with the same disjunct.
use Rattle.std.proofs.Common.{◌≡◌}
use Rattle.mw_model.specs.Terms.Object.{weight}
use Rattle.mw_model.specs.Terms.Term.{Formula, formula_object}
use Rattle.mw_model.specs.Proofs.Judgment.{last_disjunct}
use Rattle.mw_heap.specs.Objects.{object_at, IsIn}
use Rattle.mw_bad_steps.proofs.equal_calls.last_disjunct.Given as goal

abbrev pub invariant-loop-others : goal.invariant-loop-others
invariant-loop-others l = record {
  within : IsIn l.heap.objects l.last;
  same : (F : Formula) → object_at l.heap.objects l.fn.x ≡ formula_object F → (G : Formula) × (object_at l.heap.objects l.last ≡ formula_object G) × (last_disjunct F ≡ last_disjunct G);
}

abbrev pub decreases-loop-others : goal.decreases-loop-others
decreases-loop-others l = weight (object_at l.heap.objects l.last)
