-- What is left of the conditions and of the cases decides.
use Rattle.std.proofs.Common.{◌≡◌, ◌<◌, ◌&&◌, eqb, length}
use Rattle.mw_model.specs.Terms.Term.{ArityTable}
use Rattle.mw_model.specs.Laws.RulesInduction.{is_list_object, length_object, are_case_objects}
use Rattle.mw_heap.specs.Objects.{object_at, IsIn}
use Rattle.mw_term.specs.Marking.{AreMarks}
use Rattle.mw_induct.proofs.cases.are_cases.Given as goal

abbrev pub invariant-loop-more : goal.invariant-loop-more
invariant-loop-more l =
    let q = object_at l.heap.objects l.conditions in
    let s = object_at l.heap.objects l.cases in
    let q0 = object_at l.heap.objects l.fn.conditions in
    let s0 = object_at l.heap.objects l.fn.cases in
    IsIn l.heap.objects l.conditions × IsIn l.heap.objects l.cases × (l.cases < length l.marks)
    × ((A : ArityTable) → AreMarks A l.heap.objects l.marks → (is_list_object q0 && (eqb (length_object q0) (length_object s0) && are_case_objects A s0)) ≡ (is_list_object q && (eqb (length_object q) (length_object s) && are_case_objects A s)))

abbrev pub decreases-loop-more : goal.decreases-loop-more
decreases-loop-more l = l.conditions
