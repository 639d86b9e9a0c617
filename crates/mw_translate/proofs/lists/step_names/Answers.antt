-- The first name before the others.
use Rattle.std.proofs.Common.{Some, refl, sym, ap, ap₂, ◌∙◌}
use Rattle.mw_model.specs.Terms.Object.{Symbol, Pair}
use Rattle.mw_heap.specs.Objects.{object_at}
use Rattle.mw_translate.specs.Contexts.{arities, entries}
use Rattle.mw_translate.specs.Meaning.{meaning, of_names}
use Rattle.mw_translate.specs.declared.part.Kind.TheVariants as kind
use Rattle.mw_translate.proofs.Combine.{made_found, one-made, one-wanted}
use Rattle.mw_translate.proofs.Listed.{put_name, names-pair, unbound-step}
use Rattle.mw_translate.proofs.lists.step_names.Goals as goal

pub returns-in-Err-clause-step : goal.returns-in-Err-clause-step
returns-in-Err-clause-step c =
    let A = arities c.args.context.now in
    unbound-step A c.args.heap.now.objects (entries c.args.context.now) c.args.x kind.Names c.in-Err.end c.requires.within refl (λ o n b. ap (of_names A) n) c.in-Err.ensures.end

pub cons-requires-clause-second_in : goal.cons-requires-clause-second_in
cons-requires-clause-second_in c = (made_found (arities c.args.context.now) c.args.heap.now.objects (entries c.args.context.now) c.new-names.result c.in-Some.made c.requires.made (sym c.find.ensures ∙ c.in-Some.is)).object_in

pub returns-in_ok-cons-in-Some-clause-step : goal.returns-in_ok-cons-in-Some-clause-step
returns-in_ok-cons-in-Some-clause-step c =
    let A = arities c.args.context.now in
    let os = c.args.heap.now.objects in
    let b = c.in-Ok.ensures.first in
    let e = ap (meaning A kind.Names) b.shape ∙ names-pair A b.name (object_at os c.in-Ok.first.0.second) (object_at os c.in-Ok.first.1) in (
      c.in_ok-cons-in-Some.ensures.made.0,
      one-made A os (entries c.args.context.now) (meaning A kind.Names (object_at os c.args.x)) c.args.x c.requires.made (put_name (Symbol b.name)) c.new-names.ensures e (sym c.find.ensures ∙ c.in-Some.is)
          ∙ ap (λ o. Some (o, 0)) (ap₂ Pair (sym b.named) refl ∙ sym c.in_ok-cons-in-Some.ensures.made.1),
    )

pub returns-in-None-clause-step : goal.returns-in-None-clause-step
returns-in-None-clause-step c =
    let A = arities c.args.context.now in
    let os = c.args.heap.now.objects in
    let b = c.in-Ok.ensures.first in
    let e = ap (meaning A kind.Names) b.shape ∙ names-pair A b.name (object_at os c.in-Ok.first.0.second) (object_at os c.in-Ok.first.1) in
    one-wanted A os (entries c.args.context.now) (meaning A kind.Names (object_at os c.args.x)) c.args.x (put_name (Symbol b.name)) c.new-names.ensures e b.rest_below (sym c.find.ensures ∙ c.in-None.is)
