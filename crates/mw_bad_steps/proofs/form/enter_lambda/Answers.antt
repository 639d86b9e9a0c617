-- The body and the actuals wait.
use Rattle.std.proofs.Common.{is_some, sym, ◌∙◌}
use Rattle.mw_model.specs.Terms.Object.{symbol}
use Rattle.mw_model.specs.Terms.Reading.{term_of}
use Rattle.mw_heap.specs.Objects.{object_at}
use Rattle.mw_bad_steps.proofs.FormTests.{no_lambda, named_lambda, unnamed_lambda, two_wait, lighter_lambda}
use Rattle.mw_bad_steps.proofs.form.enter_lambda.Goals as goal

pub returns-in_default : goal.returns-in_default
returns-in_default c =
    let os = c.args.heap.now.objects in
    no_lambda (object_at os c.args.x) (object_at os c.args.head) (object_at os c.args.actuals) c.requires.call.is c.requires.pair c.in_default.ensures.parts

pub returns-then-not-are_names : goal.returns-then-not-are_names
returns-then-not-are_names c =
    let os = c.args.heap.now.objects in
    unnamed_lambda (object_at os c.args.x) (object_at os c.args.head) (object_at os c.args.actuals) c.requires.call.is _ _ c.in-Some.ensures.parts (sym c.are_names.ensures ∙ c.if-not-are_names.true)

pub returns : goal.returns
returns c =
    let os = c.args.heap.now.objects in
    let x = object_at os c.args.x in
    let h = object_at os c.args.head in
    let r = object_at os c.args.actuals in
    two_wait os c.args.x (is_some (term_of x)) c.args.waiting.now.items _ _ c.push.new.self.items c.push-2.new.self.items c.in_ok-push.ensures.items c.in_ok-push-2.ensures.items c.requires.call.actuals_in c.in-Some.ensures.within.1
    (named_lambda x h r c.requires.call.is _ _ c.in-Some.ensures.parts (sym c.are_names.ensures ∙ c.if-not-are_names.false))
    (lighter_lambda x h r (symbol "LAMBDA") _ _ c.requires.call.is c.in-Some.ensures.parts)
