-- Test by test.
use Rattle.std.proofs.Common.{sym, ap, ◌∙◌}
use Rattle.std.proofs.lemmas.Result.{IfOk-weaker}
use Rattle.mw_model.specs.Laws.Rules.{is_formula_object}
use Rattle.mw_heap.specs.Objects.{object_at}
use Rattle.mw_theory.proofs.Refusing.{refused_formula, proof_refused}
use Rattle.mw_theory.proofs.verify.refusal.Goals as goal

pub returns-then-not-is_formula-clause-refusal : goal.returns-then-not-is_formula-clause-refusal
returns-then-not-is_formula-clause-refusal g c = λ before grows ready.
    let os = c.args.heap.now.objects in
    let A = c.args.theory.now.arity in
    refused_formula _ _ _ (sym c.is_symbol.ensures ∙ c.if-not-is_symbol.false)
    (ap (λ B. is_formula_object B (object_at os c.args.formula)) (sym c.requires.may.held.arities) ∙ (sym (c.is_formula.ensures A os c.in_ok-extend.ensures.marked) ∙ c.if-not-is_formula.true))

pub returns-clause-refusal : goal.returns-clause-refusal
returns-clause-refusal g c = λ before grows ready.
    let os = c.args.heap.now.objects in
    let A = c.args.theory.now.arity in
    IfOk-weaker c.refusal.result _ _ (λ r is. is
    ∙ proof_refused _ _ _ (sym c.is_symbol.ensures ∙ c.if-not-is_symbol.false)
    (ap (λ B. is_formula_object B (object_at os c.args.formula)) (sym c.requires.may.held.arities) ∙ (sym (c.is_formula.ensures A os c.in_ok-extend.ensures.marked) ∙ c.if-not-is_formula.false)))
    (c.refusal.ensures.refusal before grows ready)
