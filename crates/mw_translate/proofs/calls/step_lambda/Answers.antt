-- A lambda call from its head and its actuals.
use Rattle.std.proofs.Common.{cond, Option, Some, None, sym, ap, ◌∙◌, eq-eqb}
use Rattle.mw_model.specs.Terms.Object.{Pair}
use Rattle.mw_heap.specs.Objects.{object_at}
use Rattle.mw_translate.specs.Contexts.{arities, entries}
use Rattle.mw_translate.specs.Meaning.{Meaning, meaning}
use Rattle.mw_translate.specs.declared.part.Kind.TheVariants as kind
use Rattle.mw_translate.proofs.Combine.{made_found, both-made, both-wanted}
use Rattle.mw_translate.proofs.Called.{lambda_both, lambda-call, other}
use Rattle.mw_translate.proofs.calls.step_lambda.Goals as goal

pub cons-requires-clause-first_in : goal.cons-requires-clause-first_in
cons-requires-clause-first_in c = (made_found (arities c.args.context.now) c.args.heap.now.objects (entries c.args.context.now) c.new-lambda.result c.in-Ok.a c.requires.made c.in-Ok.ensures.both.0).object_in

pub cons-requires-clause-second_in : goal.cons-requires-clause-second_in
cons-requires-clause-second_in c = (made_found (arities c.args.context.now) c.args.heap.now.objects (entries c.args.context.now) c.new-terms.result c.in-Ok.b c.requires.made c.in-Ok.ensures.both.1).object_in

pub returns-in-Err-clause-step : goal.returns-in-Err-clause-step
returns-in-Err-clause-step c =
    let A = arities c.args.context.now in
    let os = c.args.heap.now.objects in
    let e = ap (meaning A kind.Term) c.requires.call ∙ lambda-call A (object_at os c.args.head) (object_at os c.args.rest) c.requires.pair in
    both-wanted A os (entries c.args.context.now) (meaning A kind.Term (object_at os c.args.x)) c.args.x (lambda_both A) c.new-lambda.ensures c.new-terms.ensures e c.requires.head_before c.requires.rest_before c.in-Err.ensures.wanted

pub returns-then-a-b-clause-step : goal.returns-then-a-b-clause-step
returns-then-a-b-clause-step c =
    let A = arities c.args.context.now in
    let os = c.args.heap.now.objects in
    let e = ap (meaning A kind.Term) c.requires.call ∙ lambda-call A (object_at os c.args.head) (object_at os c.args.rest) c.requires.pair in
    both-made A os (entries c.args.context.now) (meaning A kind.Term (object_at os c.args.x)) c.args.x c.requires.made (lambda_both A) c.new-lambda.ensures c.new-terms.ensures e c.in-Ok.ensures.both.0 c.in-Ok.ensures.both.1
    ∙ ap (λ t. cond {A = Option Meaning} t (Some (Pair (object_at os c.in-Ok.a.object) (object_at os c.in-Ok.b.object), 0)) None) (other c.in-Ok.a.count c.in-Ok.b.count c.if-a-b.true)

pub returns-in_ok-cons-in-Ok-clause-step : goal.returns-in_ok-cons-in-Ok-clause-step
returns-in_ok-cons-in-Ok-clause-step c =
    let A = arities c.args.context.now in
    let os = c.args.heap.now.objects in
    let e = ap (meaning A kind.Term) c.requires.call ∙ lambda-call A (object_at os c.args.head) (object_at os c.args.rest) c.requires.pair in (
      c.in_ok-cons-in-Ok.ensures.made.0,
      both-made A os (entries c.args.context.now) (meaning A kind.Term (object_at os c.args.x)) c.args.x c.requires.made (lambda_both A) c.new-lambda.ensures c.new-terms.ensures e c.in-Ok.ensures.both.0 c.in-Ok.ensures.both.1
          ∙ (ap (λ t. cond {A = Option Meaning} t (Some (Pair (object_at os c.in-Ok.a.object) (object_at os c.in-Ok.b.object), 0)) None) (eq-eqb c.in-Ok.a.count c.in-Ok.b.count c.if-a-b.false)
          ∙ ap (λ o. Some (o, 0)) (sym c.in_ok-cons-in-Ok.ensures.made.1)),
    )
