-- One condition after another.
use Rattle.std.proofs.Common.{◌≡◌, true, Some, sym, ap, ◌∙◌, subst}
use Rattle.mw_model.specs.Terms.Object.{car, second_of, third_of, fourth_of}
use Rattle.mw_model.specs.Proofs.Judgment.{methods, method_among}
use Rattle.mw_model.specs.Laws.RulesInduction.{is_list_object}
use Rattle.mw_model.specs.Laws.Rules.{is_formula_object}
use Rattle.mw_heap.specs.Objects.{object_at}
use Rattle.mw_rules.specs.Methods.{method_of_logic}
use Rattle.mw_commands.specs.Commands.ExplanationTerms.{bad_formula}
use Rattle.mw_commands.specs.Commands.ExplanationSteps.{has_proof_shape}
use Rattle.mw_commands.proofs.ExplainedParts.{formula_decides}
use Rattle.mw_explain.specs.Condition.{IsWrongRow}
use Rattle.mw_explain.proofs.Conditions.{no_formula, no_list, wrong_by_row, row_part, formed_at}
use Rattle.mw_explain.proofs.condition.wrong_step.Goals as goal
use Rattle.mw_explain.proofs.condition.wrong_step.Goals.{In-Some-of, In_default-bad_formula}

-- the step has the shape of a proof, and its method; and its conclusion is a formula
step : (c : In-Some-of) → (has_proof_shape (object_at c.args.heap.now.objects c.args.step) ≡ true) × (method_among methods (car (object_at c.args.heap.now.objects c.args.step)) ≡ Some (method_of_logic c.in-Some-of.method))
step c = (sym c.in-Some.ensures.shape, ap (method_among methods) (sym c.in-Some.ensures.members.method_is) ∙ sym c.in-Some-of.ensures)

formed : (c : In_default-bad_formula) → is_formula_object c.args.arity.now (second_of (object_at c.args.heap.now.objects c.args.step)) ≡ true
formed c = (formula_decides c.args.arity.now (second_of (object_at c.args.heap.now.objects c.args.step))).0 (ap (bad_formula c.args.arity.now) (sym c.in-Some.ensures.members.conclusion_is) ∙ sym c.in_default-bad_formula.ensures.bad)

pub returns-in-Some-bad_formula-clause-wrong : goal.returns-in-Some-bad_formula-clause-wrong
returns-in-Some-bad_formula-clause-wrong c = λ t a f.
    let os = c.args.heap.now.objects in
    let x = object_at os c.args.step in
    let m = method_of_logic c.in-Some-of.method in
    let members = c.in-Some.ensures.members in
    let (shape, is_m) = step (goal.at.returns-in-Some-bad_formula-clause-wrong c).In-Some-of in
    no_formula t x m shape is_m (object_at os c.in-Some-bad_formula.part) (ap (λ A. bad_formula A (second_of x)) a ∙ (ap (bad_formula c.args.arity.now) (sym members.conclusion_is) ∙ sym c.in-Some-bad_formula.ensures.bad))

pub returns-then-not-is_list-clause-wrong : goal.returns-then-not-is_list-clause-wrong
returns-then-not-is_list-clause-wrong c = λ t a f.
    let os = c.args.heap.now.objects in
    let x = object_at os c.args.step in
    let m = method_of_logic c.in-Some-of.method in
    let members = c.in-Some.ensures.members in
    let (shape, is_m) = step (goal.at.returns-then-not-is_list-clause-wrong c).In-Some-of in
    let is_formed = formed (goal.at.returns-then-not-is_list-clause-wrong c).In_default-bad_formula in
    no_list t x m shape is_m (formed_at t c.args.arity.now x a is_formed) f (ap is_list_object (sym members.subproofs_are) ∙ (sym c.is_list.ensures ∙ c.if-not-is_list.true))

pub returns-clause-wrong : goal.returns-clause-wrong
returns-clause-wrong c = λ t a f.
    let os = c.args.heap.now.objects in
    let x = object_at os c.args.step in
    let m = method_of_logic c.in-Some-of.method in
    let members = c.in-Some.ensures.members in
    let (shape, is_m) = step (goal.at.returns-clause-wrong c).In-Some-of in
    let is_formed = formed (goal.at.returns-clause-wrong c).In_default-bad_formula in
    let w = c.wrong_row.result in
    let row = subst (λ y. IsWrongRow c.args.arity.now m (third_of x) y w) members.extras_are (subst (λ y. IsWrongRow c.args.arity.now m y (object_at os c.in-Some.members.extras) w) members.subproofs_are (c.wrong_row.ensures c.args.arity.now c.requires.marked)) in
    wrong_by_row t x m shape is_m (formed_at t c.args.arity.now x a is_formed) f os w (ap is_list_object (sym members.subproofs_are) ∙ (sym c.is_list.ensures ∙ c.if-not-is_list.false)) (subst (λ A. IsWrongRow A m (third_of x) (fourth_of x) w) (sym a) row)

pub returns-clause-within : goal.returns-clause-within
returns-clause-within c =
    let os = c.args.heap.now.objects in
    row_part c.args.arity.now (method_of_logic c.in-Some-of.method) (object_at os c.in-Some.members.subproofs) (object_at os c.in-Some.members.extras) os c.wrong_row.result (c.wrong_row.ensures c.args.arity.now c.requires.marked)
