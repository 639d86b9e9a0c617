use Rattle.std.proofs.Common.{◌++◌, ◌∷◌, [], ◌∙◌, ap, sym, length, vec_len}
use Rattle.mw_read.specs.declared.stack.Layer.TheVariants as layers
use Rattle.mw_read.proofs.Piles.{give_start, give_quote, give_mark, give_last, give_item}
use Rattle.mw_read.proofs.Turns.{popped_layer}
use Rattle.mw_read.proofs.stack.give.Goals as goal

pub loop-layer-init : goal.loop-layer-init
loop-layer-init c = give_start c.args.heap.now.objects c.args.layers.now.items c.args.labels.now.entries c.args.x c.requires.object c.requires.pile c.requires.waits c.requires.listed

pub loop-layer-preserved-in-Quote : goal.loop-layer-preserved-in-Quote
loop-layer-preserved-in-Quote c =
    let ls = c.loop-layer.layers in
    give_quote c.args.heap.now.objects c.args.layers.now.items c.args.labels.now.entries c.args.x c.loop-layer.heap.objects c.quote.new.heap.objects
    ls.items c.pop.new.self.items c.loop-layer.labels.entries c.loop-layer.x c.in_ok-x-in-Quote.x c.loop-layer.invariant
    (popped_layer ls.items c.deref.result.now c.pop.new.self.items c.in-Some.layer layers.Quote (vec_len ls) c.in-Some.ensures c.deref.ensures.value c.in-Quote.is ls.ok.0 c.pop.ensures.rest)
    c.quote.ensures.grows c.in_ok-x-in-Quote.ensures.made.0 c.in_ok-x-in-Quote.ensures.made.1

pub loop-layer-preserved : goal.loop-layer-preserved
loop-layer-preserved c =
    let ls = c.loop-layer.layers in
    give_mark c.args.heap.now.objects c.args.layers.now.items c.args.labels.now.entries c.args.x c.loop-layer.heap.objects
    ls.items c.pop-in-Mark.new.self.items c.loop-layer.labels.entries c.end.new.labels.entries c.loop-layer.x c.in-Mark.n c.loop-layer.invariant
    (popped_layer ls.items c.deref.result.now c.pop-in-Mark.new.self.items c.in-Some.layer (layers.Mark c.in-Mark.n) (vec_len ls) c.in-Some.ensures c.deref.ensures.value c.in-Mark.is ls.ok.0 c.pop-in-Mark.ensures.rest)
    (c.end.ensures.agrees c.loop-layer.heap.objects)
    (c.end.ensures.listed (length c.loop-layer.heap.objects) c.loop-layer.invariant.listed c.loop-layer.invariant.tags)

pub returns-in-Dot : goal.returns-in-Dot
returns-in-Dot c =
    let ls = c.loop-layer.layers in
    let gives =
    give_last c.args.heap.now.objects c.args.layers.now.items c.args.labels.now.entries c.args.x c.loop-layer.heap.objects
    ls.items c.pop-in-Dot.new.self.items c.push.new.self.items c.loop-layer.labels.entries c.loop-layer.x c.loop-layer.invariant
    (popped_layer ls.items c.deref.result.now c.pop-in-Dot.new.self.items c.in-Some.layer layers.Dot (vec_len ls) c.in-Some.ensures c.deref.ensures.value c.in-Dot.is ls.ok.0 c.pop-in-Dot.ensures.rest)
    c.in_ok-push-in-Dot.ensures.items in
    record { grows = c.loop-layer.invariant.kept; datum = tt; pile = gives.0; listed = c.loop-layer.invariant.tags; turn = gives.1 }

pub returns-in_default-layer : goal.returns-in_default-layer
returns-in_default-layer c =
    let ls = c.loop-layer.layers in
    let e = sym c.deref.ensures.value ∙ c.in-Some.ensures.1 in
    let gives =
    give_item c.args.heap.now.objects c.args.layers.now.items c.args.labels.now.entries c.args.x c.loop-layer.heap.objects
    ls.items c.in-Some.ensures.0 c.push-in_default-layer.new.self.items c.loop-layer.labels.entries c.loop-layer.x c.in-Some.layer c.loop-layer.invariant
    e c.in_default-layer.not-Quote c.in_default-layer.not-Dot c.in_default-layer.not-Mark
    (c.in_ok-push-in_default-layer.ensures.items ∙ ap (λ u. u ++ layers.Item c.loop-layer.x ∷ []) e) in
    record { grows = c.loop-layer.invariant.kept; datum = tt; pile = gives.0; listed = c.loop-layer.invariant.tags; turn = gives.1 }
