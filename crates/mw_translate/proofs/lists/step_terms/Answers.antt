-- A list of terms is made from its first and the rest.
use Rattle.std.proofs.Common.{Some, sym, ap, ap₂, ◌∙◌}
use Rattle.mw_heap.specs.Objects.{object_at}
use Rattle.mw_translate.specs.Contexts.{arities, entries}
use Rattle.mw_translate.specs.Meaning.{meaning}
use Rattle.mw_translate.specs.declared.part.Kind.TheVariants as kind
use Rattle.mw_translate.proofs.Combine.{made_found, both-wanted, both-made}
use Rattle.mw_translate.proofs.Listed.{put, terms-pair}
use Rattle.mw_translate.proofs.lists.step_terms.Goals as goal

pub put_first-requires-clause-first_in : goal.put_first-requires-clause-first_in
put_first-requires-clause-first_in c = (made_found (arities c.args.context.now) c.args.heap.now.objects (entries c.args.context.now) c.new-term.result c.in-Ok.a c.requires.made c.in-Ok.ensures.both.0).object_in

pub put_first-requires-clause-rest_in : goal.put_first-requires-clause-rest_in
put_first-requires-clause-rest_in c = (made_found (arities c.args.context.now) c.args.heap.now.objects (entries c.args.context.now) c.new-terms.result c.in-Ok.b c.requires.made c.in-Ok.ensures.both.1).object_in

pub returns-in_ok-put_first-in-Ok-clause-step : goal.returns-in_ok-put_first-in-Ok-clause-step
returns-in_ok-put_first-in-Ok-clause-step c =
    let A = arities c.args.context.now in
    let os = c.args.heap.now.objects in
    let is = c.in_ok-put_first-in-Ok.ensures.made in
    let e = ap (meaning A kind.Terms) c.in-Pair.ensures.shows.2 ∙ terms-pair A (object_at os c.in-Pair.first) (object_at os c.in-Pair.rest) in (
      is.within,
      both-made A os (entries c.args.context.now) (meaning A kind.Terms (object_at os c.args.x)) c.args.x c.requires.made put c.new-term.ensures c.new-terms.ensures e c.in-Ok.ensures.both.0 c.in-Ok.ensures.both.1
          ∙ ap₂ (λ o n. Some (o, n)) (sym is.object) (sym is.count),
    )

pub returns-in-Err-clause-step : goal.returns-in-Err-clause-step
returns-in-Err-clause-step c =
    let A = arities c.args.context.now in
    let os = c.args.heap.now.objects in
    let e = ap (meaning A kind.Terms) c.in-Pair.ensures.shows.2 ∙ terms-pair A (object_at os c.in-Pair.first) (object_at os c.in-Pair.rest) in
    both-wanted A os (entries c.args.context.now) (meaning A kind.Terms (object_at os c.args.x)) c.args.x put c.new-term.ensures c.new-terms.ensures e
    c.in-Pair.ensures.below.0 c.in-Pair.ensures.below.1 c.in-Err.ensures.wanted
