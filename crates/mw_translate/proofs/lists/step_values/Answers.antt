-- The first value before the others.
use Rattle.std.proofs.Common.{Some, option_map, refl, sym, ap, ap₂, ◌∙◌, arith}
use Rattle.mw_model.specs.Terms.Object.{Symbol, Pair}
use Rattle.mw_heap.specs.Objects.{object_at}
use Rattle.mw_translate.specs.Contexts.{arities, entries}
use Rattle.mw_translate.specs.Meaning.{meaning, of_terms, values_of}
use Rattle.mw_translate.specs.declared.part.Kind.TheVariants as kind
use Rattle.mw_translate.proofs.Combine.{made_found, both-made, both-wanted}
use Rattle.mw_translate.proofs.Listed.{put, values-pair, values-long, unbound-step}
use Rattle.mw_translate.proofs.lists.step_values.Goals as goal

pub returns-in-Err-clause-step : goal.returns-in-Err-clause-step
returns-in-Err-clause-step c =
    let A = arities c.args.context.now in
    unbound-step A c.args.heap.now.objects (entries c.args.context.now) c.args.x kind.Values c.in-Err.end c.requires.within refl (λ o n b. ap (λ p. of_terms A (option_map values_of p)) b) c.in-Err.ensures.end

pub returns-in_default-clause-step : goal.returns-in_default-clause-step
returns-in_default-clause-step c =
    let A = arities c.args.context.now in
    let os = c.args.heap.now.objects in
    let b = c.in-Ok.ensures.first in
    ap (meaning A kind.Values) b.shape ∙ values-long A b.name (object_at os c.in-Ok.first.0.second) (object_at os c.in-Ok.first.1) c.in_default.ensures

pub put_first-requires-clause-first_in : goal.put_first-requires-clause-first_in
put_first-requires-clause-first_in c = (made_found (arities c.args.context.now) c.args.heap.now.objects (entries c.args.context.now) c.new-term.result c.in-Ok-find_both.a c.requires.made c.in-Ok-find_both.ensures.both.0).object_in

pub put_first-requires-clause-rest_in : goal.put_first-requires-clause-rest_in
put_first-requires-clause-rest_in c = (made_found (arities c.args.context.now) c.args.heap.now.objects (entries c.args.context.now) c.new-values.result c.in-Ok-find_both.b c.requires.made c.in-Ok-find_both.ensures.both.1).object_in

pub returns-in_ok-put_first-in-Ok-find_both-clause-step : goal.returns-in_ok-put_first-in-Ok-find_both-clause-step
returns-in_ok-put_first-in-Ok-find_both-clause-step c =
    let A = arities c.args.context.now in
    let os = c.args.heap.now.objects in
    let b = c.in-Ok.ensures.first in
    let is = c.in_ok-put_first-in-Ok-find_both.ensures.made in
    let e = ap (meaning A kind.Values) (b.shape ∙ ap₂ Pair (ap (Pair (Symbol b.name)) c.in-Some.ensures.0) refl) ∙ values-pair A b.name (object_at os c.in-Some.value) (object_at os c.in-Ok.first.1) in (
      is.within,
      both-made A os (entries c.args.context.now) (meaning A kind.Values (object_at os c.args.x)) c.args.x c.requires.made put c.new-term.ensures c.new-values.ensures e c.in-Ok-find_both.ensures.both.0 c.in-Ok-find_both.ensures.both.1
          ∙ ap₂ (λ o n. Some (o, n)) (sym is.object) (sym is.count),
    )

pub returns-in-Err-find_both-clause-step : goal.returns-in-Err-find_both-clause-step
returns-in-Err-find_both-clause-step c =
    let A = arities c.args.context.now in
    let os = c.args.heap.now.objects in
    let b = c.in-Ok.ensures.first in
    let e = ap (meaning A kind.Values) (b.shape ∙ ap₂ Pair (ap (Pair (Symbol b.name)) c.in-Some.ensures.0) refl) ∙ values-pair A b.name (object_at os c.in-Some.value) (object_at os c.in-Ok.first.1) in
    both-wanted A os (entries c.args.context.now) (meaning A kind.Values (object_at os c.args.x)) c.args.x put c.new-term.ensures c.new-values.ensures e
    (omega (arith, c.in-Some.ensures.1, b.after_below)) b.rest_below c.in-Err-find_both.ensures.wanted
