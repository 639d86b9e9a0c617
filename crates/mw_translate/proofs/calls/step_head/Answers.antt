-- A head from its body.
use Rattle.std.proofs.Common.{◌≡◌, Some, sym, ap, ◌∙◌, arith}
use Rattle.mw_model.specs.Terms.Object.{Pair}
use Rattle.mw_heap.specs.Objects.{object_at}
use Rattle.mw_translate.specs.Contexts.{arities, entries}
use Rattle.mw_translate.specs.Meaning.{meaning}
use Rattle.mw_translate.specs.declared.part.Kind.TheVariants as kind
use Rattle.mw_model.specs.Terms.Reading.{term_of}
use Rattle.mw_model.specs.Events.Expansion.{expanded}
use Rattle.mw_model.proofs.Formed.{formed}
use Rattle.mw_model.proofs.Read.{term_read}
use Rattle.mw_translate.proofs.Combine.{made_found, made-at, one-needed, result_made}
use Rattle.mw_translate.proofs.Called.{head-none, head-body, body_of}
use Rattle.mw_translate.proofs.calls.step_head.Goals as goal

pub closed_head-requires-clause-body_in : goal.closed_head-requires-clause-body_in
closed_head-requires-clause-body_in c = (made_found (arities c.args.context.now) c.args.heap.now.objects (entries c.args.context.now) c.new-term.result c.in-Some-find.made c.requires.made (sym c.find.ensures ∙ c.in-Some-find.is)).object_in

pub returns-in-Some-find-clause-step : goal.returns-in-Some-find-clause-step
returns-in-Some-find-clause-step c =
    let A = arities c.args.context.now in
    let os = c.args.heap.now.objects in
    let l = object_at os c.in-Pair.lambda in
    let xs = object_at os c.in-Some.two.0 in
    let b = object_at os c.in-Some.two.1 in
    let m = object_at os c.in-Some-find.made.object in
    let t = body_of A (expanded b) (m, c.in-Some-find.made.count) (made-at A os (entries c.args.context.now) (meaning A kind.Head (object_at os c.args.x)) c.args.x c.requires.made c.new-term.ensures (sym c.find.ensures ∙ c.in-Some-find.is)) in
    let read : term_of m ≡ Some t.0 = ap term_of (sym t.3) ∙ term_read A t.0 (formed A t.0 t.2) in
    let e =
    ap (meaning A kind.Head) (c.in-Pair.ensures.shows.2 ∙ ap (Pair l) c.in-Some.ensures.0)
    ∙ head-body A l xs b m t.0 (sym c.is_word.ensures ∙ c.if-not-is_word.false) t.1 t.2 t.3 in
    result_made A os c.closed_head.new.heap.objects (entries c.args.context.now) (meaning A kind.Head (object_at os c.args.x)) _ c.args.x c.closed_head.result e (c.closed_head.ensures.head t.0 read)

pub returns-in-None-clause-step : goal.returns-in-None-clause-step
returns-in-None-clause-step c =
    let A = arities c.args.context.now in
    let os = c.args.heap.now.objects in
    let l = object_at os c.in-Pair.lambda in
    let xs = object_at os c.in-Some.two.0 in
    let b = object_at os c.in-Some.two.1 in
    let e = ap (meaning A kind.Head) (c.in-Pair.ensures.shows.2 ∙ ap (Pair l) c.in-Some.ensures.0) in
    one-needed A os (entries c.args.context.now) (meaning A kind.Head (object_at os c.args.x)) c.args.x c.new-term.ensures (omega (arith, c.in-Some.ensures.2, c.in-Pair.ensures.below.1))
    (sym c.find.ensures ∙ c.in-None.is) (λ n. e ∙ head-none A l xs b n)
