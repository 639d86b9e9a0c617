-- A place from the member.
use Rattle.std.proofs.Common.{◌+◌, sym, ap, ◌∙◌, arith}
use Rattle.mw_heap.specs.Objects.{object_at}
use Rattle.mw_translate.specs.Contexts.{arities, entries}
use Rattle.mw_translate.specs.Meaning.{of_term}
use Rattle.mw_model.specs.Events.Expansion.{expanded_each}
use Rattle.mw_translate.specs.Forms.{with_terms, place_of}
use Rattle.mw_translate.proofs.Combine.{made_found, one-made, one-wanted, result_made}
use Rattle.mw_translate.proofs.Called.{place_one, place-one, place-shape}
use Rattle.mw_translate.proofs.places.step_place.Goals as goal

pub checked_place-requires : goal.checked_place-requires
checked_place-requires c = (made_found (arities c.args.context.now) c.args.heap.now.objects (entries c.args.context.now) c.new-term.result c.in-Some-find.made c.requires.made (sym c.find.ensures ∙ c.in-Some-find.is)).object_in

pub returns-in-Some-find-clause-step : goal.returns-in-Some-find-clause-step
returns-in-Some-find-clause-step c =
    let os = c.args.heap.now.objects in
    let A = arities c.args.context.now in
    let n = c.args.steps in
    let goal = of_term A (with_terms (place_of n) (expanded_each (object_at os c.args.rest))) in
    let e = ap (λ r. of_term A (with_terms (place_of n) (expanded_each r))) c.in-Some.ensures.0 ∙ place-one A n (object_at os c.in-Some.member) in
    result_made A os c.checked_place.new.heap.objects (entries c.args.context.now) goal _ (c.args.rest + 1) c.checked_place.result
    (one-made A os (entries c.args.context.now) goal (c.args.rest + 1) c.requires.made (place_one A n) c.new-term.ensures e (sym c.find.ensures ∙ c.in-Some-find.is))
    c.checked_place.ensures.made

pub returns-in-None-clause-step : goal.returns-in-None-clause-step
returns-in-None-clause-step c =
    let os = c.args.heap.now.objects in
    let A = arities c.args.context.now in
    let n = c.args.steps in
    let e = ap (λ r. of_term A (with_terms (place_of n) (expanded_each r))) c.in-Some.ensures.0 ∙ place-one A n (object_at os c.in-Some.member) in
    one-wanted A os (entries c.args.context.now) (of_term A (with_terms (place_of n) (expanded_each (object_at os c.args.rest)))) (c.args.rest + 1) (place_one A n) c.new-term.ensures e
    (omega (arith, c.in-Some.ensures.1)) (sym c.find.ensures ∙ c.in-None.is)

pub returns-in_default-clause-step : goal.returns-in_default-clause-step
returns-in_default-clause-step c = place-shape (arities c.args.context.now) c.args.steps (object_at c.args.heap.now.objects c.args.rest) c.in_default.ensures
