-- Test by test.
use Rattle.std.proofs.Common.{◌≡◌, false, true, Some, None, option_map, sym, ap, ◌∙◌}
use Rattle.mw_model.specs.Laws.Rules.{is_formula_object}
use Rattle.mw_model.specs.Proofs.Judgment.{methods, method_among}
use Rattle.mw_commands.specs.Commands.Log.{naturals_of, formulas_at}
use Rattle.mw_heap.specs.Objects.{object_at, IsIn}
use Rattle.mw_term.proofs.CallerLemmas.{AreMarks-grows}
use Rattle.mw_rules.specs.Methods.{method_of_logic}
use Rattle.mw_flat.specs.Collecting.{conclusions_listed}
use Rattle.mw_flat.proofs.Premises.{none-all, listed-all}
use Rattle.mw_flat.proofs.ByNumber.{listed-All}
use Rattle.mw_flat.proofs.StepJudged.{is-none, not-counted, not-listed, not-six, not-method}
use Rattle.mw_flat.proofs.StepRule.{not-formula}
use Rattle.mw_flat.proofs.StepTested.{good-step, bad-step}
use Rattle.mw_flat.proofs.conclusion.conclusion_of.Goals as goal

pub returns-in_default-clause-conclusion : goal.returns-in_default-clause-conclusion
returns-in_default-clause-conclusion c = λ Fs formulas same counted.
    let os = c.args.heap.now.objects in
    is-none os _ (not-six _ _ _ _ Fs (object_at os c.args.x) c.in_default.ensures)

pub returns-in_default-of-clause-conclusion : goal.returns-in_default-of-clause-conclusion
returns-in_default-of-clause-conclusion c = λ Fs formulas same counted.
    let os = c.args.heap.now.objects in
    is-none os _ (not-method _ _ _ _ Fs (object_at os c.args.x) (ap (method_among methods) c.in-Some.ensures.method ∙ (sym c.of.ensures ∙ ap (option_map method_of_logic) c.in_default-of.is)))

pub returns-then-not-is_number-clause-conclusion : goal.returns-then-not-is_number-clause-conclusion
returns-then-not-is_number-clause-conclusion c = λ Fs formulas same counted.
    let os = c.args.heap.now.objects in
    is-none os _ (not-counted _ _ _ _ Fs (object_at os c.args.x) (object_at os c.in-Some.step.number) c.args.number c.in-Some.ensures.number counted (sym c.is_number.ensures ∙ c.if-not-is_number.true))

pub returns-in_err-good-clause-marked : goal.returns-in_err-good-clause-marked
returns-in_err-good-clause-marked c = AreMarks-grows c.args.theory.now.arity c.args.heap.now.objects c.follows.new.heap.objects c.extend.new.self c.follows.ensures.grows c.in_ok-extend.ensures.marked

pub returns-then-good-clause-marked : goal.returns-then-good-clause-marked
returns-then-good-clause-marked c = AreMarks-grows c.args.theory.now.arity c.args.heap.now.objects c.follows.new.heap.objects c.extend.new.self c.follows.ensures.grows c.in_ok-extend.ensures.marked

pub returns-clause-marked : goal.returns-clause-marked
returns-clause-marked c = AreMarks-grows c.args.theory.now.arity c.args.heap.now.objects c.follows.new.heap.objects c.extend.new.self c.follows.ensures.grows c.in_ok-extend.ensures.marked

pub returns-in_default-2-clause-conclusion : goal.returns-in_default-2-clause-conclusion
returns-in_default-2-clause-conclusion c = λ Fs formulas same counted.
    let os = c.args.heap.now.objects in
    let sub = object_at os c.in-Some.step.subproofs in
    let none : conclusions_listed c.args.conclusions.now sub ≡ None = sym c.in_ok-premises.ensures ∙ ap (option_map (λ v. v.items)) c.in_default-2.is in
    let missing = none-all os (conclusions_listed c.args.conclusions.now sub) (formulas_at Fs (naturals_of sub)) (listed-all os c.args.conclusions.now Fs same sub) none in
    is-none os _ (not-listed _ _ _ _ Fs (object_at os c.args.x) (ap (λ y. formulas_at Fs (naturals_of y)) c.in-Some.ensures.subproofs ∙ missing))

pub follows-requires-clause-marks : goal.follows-requires-clause-marks
follows-requires-clause-marks c = (c.args.theory.now.arity, c.in_ok-extend.ensures.marked)

pub follows-requires-clause-basis : goal.follows-requires-clause-basis
follows-requires-clause-basis c = record { axioms = c.requires.held.each_axiom_in; theorems = c.requires.held.each_theorem_in }

pub follows-requires-clause-formula : goal.follows-requires-clause-formula
follows-requires-clause-formula c =
    let A = c.args.theory.now.arity in
    (A, sym (c.is_formula.ensures A c.args.heap.now.objects c.in_ok-extend.ensures.marked) ∙ c.if-not-is_formula.false)

pub returns-then-not-is_formula-clause-conclusion : goal.returns-then-not-is_formula-clause-conclusion
returns-then-not-is_formula-clause-conclusion c = λ Fs formulas same counted.
    let os = c.args.heap.now.objects in
    let t = c.args.theory.now in
    let y = object_at os c.in-Some.step.conclusion in
    let no : is_formula_object t.arity y ≡ false = sym (c.is_formula.ensures t.arity os c.in_ok-extend.ensures.marked) ∙ c.if-not-is_formula.true in
    is-none os _ (not-formula _ _ _ _ Fs (object_at os c.args.x) y c.in-Some.ensures.conclusion (ap (λ A. is_formula_object A y) (sym c.requires.held.arities) ∙ no))

-- the premises are conclusions with the numbers of the subproofs
pub follows-requires-clause-premises : goal.follows-requires-clause-premises
follows-requires-clause-premises c =
    let os = c.args.heap.now.objects in
    let A = c.args.theory.now.arity in
    let listed : conclusions_listed c.args.conclusions.now (object_at os c.in-Some.step.subproofs) ≡ Some c.deref.result.now = sym c.in_ok-premises.ensures ∙ (ap (option_map (λ v. v.items)) c.in-Some-2.is ∙ ap Some (sym c.deref.ensures.value)) in
    λ k d l. (listed-All (λ r. IsIn os r × (is_formula_object A (object_at os r) ≡ true)) c.args.conclusions.now c.requires.conclusions (object_at os c.in-Some.step.subproofs) c.deref.result.now listed k d l).0

pub follows-requires-clause-formulas : goal.follows-requires-clause-formulas
follows-requires-clause-formulas c =
    let os = c.args.heap.now.objects in
    let A = c.args.theory.now.arity in
    let listed : conclusions_listed c.args.conclusions.now (object_at os c.in-Some.step.subproofs) ≡ Some c.deref.result.now = sym c.in_ok-premises.ensures ∙ (ap (option_map (λ v. v.items)) c.in-Some-2.is ∙ ap Some (sym c.deref.ensures.value)) in
    λ k d l. (A, (listed-All (λ r. IsIn os r × (is_formula_object A (object_at os r) ≡ true)) c.args.conclusions.now c.requires.conclusions (object_at os c.in-Some.step.subproofs) c.deref.result.now listed k d l).1)

pub returns-then-good-clause-conclusion : goal.returns-then-good-clause-conclusion
returns-then-good-clause-conclusion c = λ Fs formulas same counted.
    let os = c.args.heap.now.objects in
    let A = c.args.theory.now.arity in
    let marked = c.in_ok-extend.ensures.marked in
    good-step os c.args.theory.now c.requires.held c.args.x c.in-Some.step c.in-Some.ensures c.in_range.ensures c.args.conclusions.now c.args.number (sym c.is_number.ensures ∙ c.if-not-is_number.false) (method_of_logic c.in-Some-of.method)
    (sym c.of.ensures ∙ ap (option_map method_of_logic) c.in-Some-of.is) (sym (c.is_formula.ensures A os marked) ∙ c.if-not-is_formula.false) c.deref.result.now (sym c.in_ok-premises.ensures ∙ (ap (option_map (λ v. v.items)) c.in-Some-2.is ∙ ap Some (sym c.deref.ensures.value))) Fs formulas same counted
    (sym c.if-good.true ∙ c.in_ok-good.ensures.answer A marked)

pub returns-clause-conclusion : goal.returns-clause-conclusion
returns-clause-conclusion c = λ Fs formulas same counted.
    let os = c.args.heap.now.objects in
    let A = c.args.theory.now.arity in
    let marked = c.in_ok-extend.ensures.marked in
    bad-step os c.args.theory.now c.requires.held c.args.x c.in-Some.step c.in-Some.ensures c.in_range.ensures c.args.conclusions.now c.args.number (sym c.is_number.ensures ∙ c.if-not-is_number.false) (method_of_logic c.in-Some-of.method)
    (sym c.of.ensures ∙ ap (option_map method_of_logic) c.in-Some-of.is) (sym (c.is_formula.ensures A os marked) ∙ c.if-not-is_formula.false) c.deref.result.now (sym c.in_ok-premises.ensures ∙ (ap (option_map (λ v. v.items)) c.in-Some-2.is ∙ ap Some (sym c.deref.ensures.value))) Fs formulas same counted
    (sym c.if-good.false ∙ c.in_ok-good.ensures.answer A marked)
