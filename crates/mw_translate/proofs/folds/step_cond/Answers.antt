-- COND: from the first clause and the others.
use Rattle.std.proofs.Common.{refl, ap, ap₂, ◌∙◌, arith}
use Rattle.mw_model.specs.Terms.Object.{Pair}
use Rattle.mw_heap.specs.Objects.{object_at}
use Rattle.mw_translate.specs.Contexts.{arities, entries}
use Rattle.mw_translate.specs.Meaning.{meaning}
use Rattle.mw_translate.specs.declared.part.Kind.TheVariants as kind
use Rattle.mw_translate.proofs.Combine.{made_found, three-made, three-wanted, result_made}
use Rattle.mw_translate.proofs.Folded.{if_three, cond-pair}
use Rattle.mw_translate.proofs.folds.step_cond.Goals as goal

pub checked_if-requires-clause-first_in : goal.checked_if-requires-clause-first_in
checked_if-requires-clause-first_in c = (made_found (arities c.args.context.now) c.args.heap.now.objects (entries c.args.context.now) c.new-test.result c.in-Ok.a c.requires.made c.in-Ok.ensures.three.0).object_in

pub checked_if-requires-clause-second_in : goal.checked_if-requires-clause-second_in
checked_if-requires-clause-second_in c = (made_found (arities c.args.context.now) c.args.heap.now.objects (entries c.args.context.now) c.new-value.result c.in-Ok.b c.requires.made c.in-Ok.ensures.three.1).object_in

pub checked_if-requires-clause-third_in : goal.checked_if-requires-clause-third_in
checked_if-requires-clause-third_in c = (made_found (arities c.args.context.now) c.args.heap.now.objects (entries c.args.context.now) c.new-others.result c.in-Ok.c c.requires.made c.in-Ok.ensures.three.2).object_in

pub returns-in-Ok-clause-step : goal.returns-in-Ok-clause-step
returns-in-Ok-clause-step c =
    let os = c.args.heap.now.objects in
    let A = arities c.args.context.now in
    let e = ap (meaning A kind.Cond) (c.in-Pair.ensures.shows.2 ∙ ap₂ Pair c.in-Some.ensures.0 refl) ∙ cond-pair A (object_at os c.in-Some.two.0) (object_at os c.in-Some.two.1) (object_at os c.in-Pair.rest) in
    result_made A os c.checked_if.new.heap.objects (entries c.args.context.now) (meaning A kind.Cond (object_at os c.args.x)) _ c.args.x c.checked_if.result
    (three-made A os (entries c.args.context.now) (meaning A kind.Cond (object_at os c.args.x)) c.args.x c.requires.made (if_three A) c.new-test.ensures c.new-value.ensures c.new-others.ensures e c.in-Ok.ensures.three.0 c.in-Ok.ensures.three.1 c.in-Ok.ensures.three.2)
    c.checked_if.ensures.made

pub returns-in-Err-clause-step : goal.returns-in-Err-clause-step
returns-in-Err-clause-step c =
    let os = c.args.heap.now.objects in
    let A = arities c.args.context.now in
    let e = ap (meaning A kind.Cond) (c.in-Pair.ensures.shows.2 ∙ ap₂ Pair c.in-Some.ensures.0 refl) ∙ cond-pair A (object_at os c.in-Some.two.0) (object_at os c.in-Some.two.1) (object_at os c.in-Pair.rest) in
    three-wanted A os (entries c.args.context.now) (meaning A kind.Cond (object_at os c.args.x)) c.args.x (if_three A) c.new-test.ensures c.new-value.ensures c.new-others.ensures e
    (omega (arith, c.in-Some.ensures.1, c.in-Pair.ensures.below.0)) (omega (arith, c.in-Some.ensures.2, c.in-Pair.ensures.below.0)) c.in-Pair.ensures.below.1 c.in-Err.ensures.wanted
