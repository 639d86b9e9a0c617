-- Once nothing waits, all is complete.
use Rattle.std.proofs.Common.{[], ◌∷◌, ◌++◌, ap, ◌∙◌, subst, arith}
use Rattle.mw_flat.specs.declared.item.Item.TheVariants.{Proof}
use Rattle.mw_flat.proofs.Sizes.{items_fall}
use Rattle.mw_flat.proofs.Walking.{IsWalking, then_known, walking_starts, walking_goes, walked, walked_added, nothing_left}
use Rattle.mw_flat.proofs.walk.complete_proof.Goals as goal

pub loop-item-init : goal.loop-item-init
loop-item-init c = walking_starts c.args.heap.now.objects c.args.p c.args.complete.now.keys c.args.lists.now.keys c.requires.complete c.requires.within c.push.new.self.items (c.in_ok-push.ensures.items ∙ ap (λ l. l ++ Proof c.args.p ∷ []) c.new-waiting.ensures.items)

pub loop-item-smaller : goal.loop-item-smaller
loop-item-smaller c =
    let o = c.loop-item in
    let n = c.advance.new in
    items_fall c.args.heap.now.objects c.in-Some.item o.complete.keys n.complete.keys o.lists.keys n.lists.keys c.pop.new.self.items n.waiting.items c.in_ok-advance.ensures o.waiting.items c.in-Some.ensures.items

pub loop-item-preserved : goal.loop-item-preserved
loop-item-preserved c =
    let os = c.args.heap.now.objects in
    let o = c.loop-item in
    let n = c.advance.new in
    let target = then_known os c.args.p c.args.complete.now.keys c.args.lists.now.keys in
    walking_goes os c.order.ensures.distinct target o.complete.keys n.complete.keys o.lists.keys n.lists.keys c.pop.new.self.items n.waiting.items c.in-Some.item
    (subst (IsWalking os target o.complete.keys o.lists.keys) c.in-Some.ensures.items o.invariant) c.in_ok-advance.ensures

pub returns-clause-complete : goal.returns-clause-complete
returns-clause-complete c =
    let o = c.loop-item in
    walked c.args.heap.now.objects c.args.p c.args.complete.now.keys c.args.lists.now.keys c.requires.complete o.complete.keys o.lists.keys o.waiting.items
    (nothing_left o.waiting.items c.pop.new.self.items c.in_default.ensures.items (omega (arith, c.in_default.ensures.cases.1, c.pop.new.self.ok.0))) o.invariant

pub returns-clause-added : goal.returns-clause-added
returns-clause-added c =
    let o = c.loop-item in
    walked_added c.args.heap.now.objects c.args.p c.args.complete.now.keys c.args.lists.now.keys c.requires.complete o.complete.keys o.lists.keys o.waiting.items
    (nothing_left o.waiting.items c.pop.new.self.items c.in_default.ensures.items (omega (arith, c.in_default.ensures.cases.1, c.pop.new.self.ok.0))) o.invariant
