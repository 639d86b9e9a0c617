-- A call from its actuals.
use Rattle.std.proofs.Common.{◌+◌, sym, ◌∙◌, arith, option_and_then}
use Rattle.mw_model.specs.Values.Primitive.{name_of}
use Rattle.mw_heap.specs.Objects.{object_at}
use Rattle.mw_translate.specs.Contexts.{arities, entries}
use Rattle.mw_translate.specs.Meaning.{of_term}
use Rattle.mw_model.specs.Events.Expansion.{Other, expanded_each}
use Rattle.mw_model.specs.Events.Expansion.{form}
use Rattle.mw_translate.proofs.Combine.{made_found, one-made, one-wanted, result_made}
use Rattle.mw_translate.proofs.Called.{call_one, call-terms}
use Rattle.mw_translate.proofs.calls.step_call.Goals as goal

pub checked_call-requires-clause-actuals_in : goal.checked_call-requires-clause-actuals_in
checked_call-requires-clause-actuals_in c = (made_found (arities c.args.context.now) c.args.heap.now.objects (entries c.args.context.now) c.new-terms.result c.in-Some.actuals c.requires.made (sym c.find.ensures ∙ c.in-Some.is)).object_in

pub returns-in-Some-clause-step : goal.returns-in-Some-clause-step
returns-in-Some-clause-step c =
    let os = c.args.heap.now.objects in
    let A = arities c.args.context.now in
    let f = name_of (object_at os c.args.head) in
    let goal = of_term A (option_and_then (form Other f) (expanded_each (object_at os c.args.rest))) in
    result_made A os c.checked_call.new.heap.objects (entries c.args.context.now) goal _ (c.args.rest + 1) c.checked_call.result
    (one-made A os (entries c.args.context.now) goal (c.args.rest + 1) c.requires.made (call_one A f) c.new-terms.ensures (call-terms A f c.requires.no_quote (object_at os c.args.rest)) (sym c.find.ensures ∙ c.in-Some.is))
    c.checked_call.ensures.made

pub returns-in-None-clause-step : goal.returns-in-None-clause-step
returns-in-None-clause-step c =
    let os = c.args.heap.now.objects in
    let A = arities c.args.context.now in
    let f = name_of (object_at os c.args.head) in
    one-wanted A os (entries c.args.context.now) (of_term A (option_and_then (form Other f) (expanded_each (object_at os c.args.rest)))) (c.args.rest + 1) (call_one A f) c.new-terms.ensures (call-terms A f c.requires.no_quote (object_at os c.args.rest))
    (omega arith) (sym c.find.ensures ∙ c.in-None.is)
