use Rattle.std.proofs.Common.{◌++◌, ◌∷◌, [], ◌∙◌, ap, subst}
use Rattle.mw_read.specs.Piles.{IsPile}
use Rattle.mw_read.specs.declared.stack.Layer.TheVariants as layers
use Rattle.mw_read.proofs.Piles.{layer_lies}
use Rattle.mw_read.proofs.Folding.{fold_start, fold_item, fold_end}
use Rattle.mw_read.proofs.stack.fold.Goals as goal

pub loop-layer-init : goal.loop-layer-init
loop-layer-init c = fold_start c.args.heap.now.objects c.args.layers.now.items c.args.last c.requires.object c.requires.pile c.requires.list

pub pair-requires-clause-first_in : goal.pair-requires-clause-first_in
pair-requires-clause-first_in c =
    (layer_lies c.loop-layer.heap.objects c.pop.new.self.items (layers.Item c.in-Item.x)
    (subst (λ u. IsPile c.loop-layer.heap.objects u) (c.in-Some.ensures.items ∙ ap (λ u. c.pop.new.self.items ++ u ∷ []) c.in-Item.is) c.loop-layer.invariant.pile)).1

pub loop-layer-preserved : goal.loop-layer-preserved
loop-layer-preserved c =
    fold_item c.args.heap.now.objects c.args.layers.now.items c.args.last c.loop-layer.heap.objects c.pair.new.heap.objects c.loop-layer.layers.items c.pop.new.self.items c.loop-layer.list c.in-Item.x c.in_ok-list-in-Item.list
    c.loop-layer.invariant (c.in-Some.ensures.items ∙ ap (λ u. c.pop.new.self.items ++ u ∷ []) c.in-Item.is)
    c.pair.ensures.grows c.in_ok-list-in-Item.ensures.made.0 c.in_ok-list-in-Item.ensures.made.1

pub returns-in_default-layer : goal.returns-in_default-layer
returns-in_default-layer c =
    let e = fold_end c.args.heap.now.objects c.args.layers.now.items c.args.last c.loop-layer.heap.objects c.loop-layer.layers.items c.pop.new.self.items c.loop-layer.list c.in-Some.layer
    c.loop-layer.invariant c.in-Some.ensures.items c.in_default-layer.not-Item in
    record { grows = c.loop-layer.invariant.kept; pile = e.0; rest = e.1; made = (c.loop-layer.invariant.listed, e.2) }
