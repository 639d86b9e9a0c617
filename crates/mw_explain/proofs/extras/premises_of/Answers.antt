-- The cases are lists of pairs, and the conclusion is a formula.
use Rattle.std.proofs.Common.{◌≡◌, true, sym, ◌∙◌, subst}
use Rattle.mw_model.specs.Laws.Rules.{is_formula_object}
use Rattle.mw_heap.specs.Objects.{object_at}
use Rattle.mw_subst.proofs.FormulaObjects.{substitute_object-formula}
use Rattle.mw_term.specs.Marking.{AreMarks}
use Rattle.mw_explain.proofs.ExtrasExact.{pairs_in}
use Rattle.mw_explain.proofs.extras.premises_of.Goals as goal

pub premises_of_induction-requires-clause-pairs : goal.premises_of_induction-requires-clause-pairs
premises_of_induction-requires-clause-pairs c =
    let A = c.requires.marks.0 in
    let mid = c.has_form.new.heap.objects in
    let last = c.are_cases.new.heap.objects in
    let marks = subst (λ h. AreMarks A h c.args.marks.now) (sym c.has_form.ensures.objects) c.requires.marks.1 in
    pairs_in A mid last _ _ _ c.are_cases.ensures.objects (c.in_ok-are_cases.ensures.cases A marks) c.if-not-branch-2.false

pub premises_of_induction-requires-clause-formula : goal.premises_of_induction-requires-clause-formula
premises_of_induction-requires-clause-formula c =
    let formula = c.requires.formula in
    let last = c.are_cases.new.heap.objects in
    let same = subst (λ h. is_formula_object formula.0 (object_at h c.args.conclusion) ≡ true) (sym (c.are_cases.ensures.objects ∙ c.has_form.ensures.objects)) formula.1 in
    λ s. substitute_object-formula formula.0 s (object_at last c.args.conclusion) same
