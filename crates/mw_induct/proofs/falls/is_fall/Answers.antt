-- The members that the disjunction and the equation have decide.
use Rattle.std.proofs.Common.{sym, ◌∙◌}
use Rattle.std.proofs.lemmas.Result.{IfOk-weaker}
use Rattle.mw_model.specs.Terms.Object.{symbol, list3}
use Rattle.mw_model.specs.Laws.Rules.{substitute_object}
use Rattle.mw_heap.specs.Objects.{object_at}
use Rattle.mw_induct.proofs.Forms.{same_fall, same_first, other_second}
use Rattle.mw_induct.proofs.falls.is_fall.Goals as goal

pub returns-in_default-clause-fall : goal.returns-in_default-clause-fall
returns-in_default-clause-fall c = sym (c.in_default.ensures.members _ _)

pub returns-in_default-members_after-clause-fall : goal.returns-in_default-members_after-clause-fall
returns-in_default-members_after-clause-fall c =
    let o = object_at c.args.heap.now.objects in
    let before = substitute_object (o c.args.s) (o c.args.measure) in
    let fall = list3 (symbol "ORD<") before (o c.args.measure) in
    sym (same_fall (o c.args.x) _ _ _ (o c.args.condition) fall c.in-Some.ensures.members (sym c.if-not-is_not.ensures) c.in-Some-true_term.ensures.term ∙ c.in_default-members_after.ensures.members before (o c.args.measure))

pub returns-then-not-same-clause-fall : goal.returns-then-not-same-clause-fall
returns-then-not-same-clause-fall c =
    let o = object_at c.args.heap.now.objects in
    let before = substitute_object (o c.args.s) (o c.args.measure) in
    let fall = list3 (symbol "ORD<") before (o c.args.measure) in
    sym (same_fall (o c.args.x) _ _ _ (o c.args.condition) fall c.in-Some.ensures.members (sym c.if-not-is_not.ensures) c.in-Some-true_term.ensures.term
    ∙ other_second _ (symbol "ORD<") _ _ before (o c.args.measure) c.in-Some-members_after.ensures.members (sym c.same.ensures.same ∙ c.if-not-same.true))

pub returns-clause-fall : goal.returns-clause-fall
returns-clause-fall c =
    let o = object_at c.args.heap.now.objects in
    let before = substitute_object (o c.args.s) (o c.args.measure) in
    let fall = list3 (symbol "ORD<") before (o c.args.measure) in
    let is = same_fall (o c.args.x) _ _ _ (o c.args.condition) fall c.in-Some.ensures.members (sym c.if-not-is_not.ensures) c.in-Some-true_term.ensures.term
    ∙ same_first _ (symbol "ORD<") _ _ before (o c.args.measure) c.in-Some-members_after.ensures.members (sym c.same.ensures.same ∙ c.if-not-same.false) in
    IfOk-weaker c.is_instance_by.result _ _ (λ b e. e ∙ sym is) c.is_instance_by.ensures.instance
