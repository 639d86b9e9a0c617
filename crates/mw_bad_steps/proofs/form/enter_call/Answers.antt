-- The actuals wait.
use Rattle.std.proofs.Common.{is_some, sym, ◌∙◌}
use Rattle.mw_model.specs.Terms.Reading.{term_of}
use Rattle.mw_heap.specs.Objects.{object_at}
use Rattle.mw_bad_steps.specs.declared.form.Form.TheVariants.{Terms}
use Rattle.mw_bad_steps.proofs.FormTests.{short_if, call_form, one_waits, lighter_rest}
use Rattle.mw_bad_steps.proofs.form.enter_call.Goals as goal

pub returns-then-is_uneven_if : goal.returns-then-is_uneven_if
returns-then-is_uneven_if c =
    let os = c.args.heap.now.objects in
    short_if (object_at os c.args.x) (object_at os c.args.head) (object_at os c.args.actuals) c.requires.call.is c.requires.symbol (sym c.is_word.ensures ∙ c.if-is_word.false) (sym c.is_uneven_if.ensures ∙ c.if-is_uneven_if.true)

pub returns : goal.returns
returns c =
    let os = c.args.heap.now.objects in
    let x = object_at os c.args.x in
    one_waits os c.args.x (is_some (term_of x)) c.args.waiting.now.items (Terms c.args.actuals) c.push.new.self.items c.in_ok-push.ensures.items c.requires.call.actuals_in
    (call_form x (object_at os c.args.head) (object_at os c.args.actuals) c.requires.call.is c.requires.symbol (sym c.is_word.ensures ∙ c.if-is_word.false) (sym c.is_uneven_if.ensures ∙ c.if-is_uneven_if.false))
    (lighter_rest x (object_at os c.args.head) (object_at os c.args.actuals) c.requires.call.is)
