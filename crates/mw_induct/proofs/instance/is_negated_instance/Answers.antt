-- What is negated decides.
use Rattle.std.proofs.Common.{sym, ap, ◌∙◌}
use Rattle.std.proofs.lemmas.Result.{IfOk-weaker}
use Rattle.mw_model.specs.Terms.Object.{same_object, symbol}
use Rattle.mw_model.specs.Laws.Rules.{not_object, substitute_formula_object}
use Rattle.mw_heap.specs.Objects.{object_at}
use Rattle.mw_induct.proofs.Forms.{same_list2}
use Rattle.mw_induct.proofs.instance.is_negated_instance.Goals as goal

pub returns-in-Some-clause-negation : goal.returns-in-Some-clause-negation
returns-in-Some-clause-negation c =
    let o = object_at c.args.heap.now.objects in
    let instance = substitute_formula_object (o c.args.s) (o c.args.a) in
    let is = ap (λ y. same_object y (not_object instance)) c.in-Some.ensures.member ∙ same_list2 (symbol "PNOT*") (o c.in-Some.instance) instance in
    IfOk-weaker c.is_instance_by.result _ _ (λ b e. e ∙ (ap (same_object (o c.in-Some.instance)) (c.requires.formula.1 (o c.args.s)) ∙ sym is)) c.is_instance_by.ensures.instance

pub returns-in-None-clause-negation : goal.returns-in-None-clause-negation
returns-in-None-clause-negation c = sym (c.in-None.ensures.member _)
