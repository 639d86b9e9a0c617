-- One more node is reduced.
use Rattle.std.proofs.Common.{ℕ, ◌+◌, ◌<◌, sym, ap, ◌∙◌, subst, arith, map, length, get_or}
use Rattle.std.specs.Prelude.{All}
use Rattle.mw_heap.specs.Objects.{object_at, Grows}
use Rattle.mw_heap.proofs.Objects.{IsIn-Grows, Grows-trans}
use Rattle.mw_taut.specs.declared.table.Node.TheVariants.{Equation}
use Rattle.mw_taut.specs.Nodes.{IsNode}
use Rattle.mw_taut.specs.Reducing.{each_at, IsFormIn, reduce}
use Rattle.mw_taut.proofs.Elements.{default_free}
use Rattle.mw_taut.proofs.Kept.{in_kept}
use Rattle.mw_taut.proofs.ReducingAll.{IsReducing, reducing-starts, reducing-node, reducing-more, reducing-ends}
use Rattle.mw_taut.proofs.reduce.reduce_all.Goals as goal

pub loop-node-init : goal.loop-node-init
loop-node-init c = reducing-starts c.args.heap.now.objects c.args.at.now.context c.args.at.now.equation c.args.at.now.value c.args.at.now.formulas.now c.args.nodes.now c.new-done.result.items c.new-done.ensures.items (c.requires.nodes.0, c.requires.nodes.1)

pub reduce-requires : goal.reduce-requires
reduce-requires c =
    let start = c.args.heap.now.objects in
    let os = c.loop-node.heap.objects in
    let nodes = c.args.nodes.now in
    let i = c.loop-node.node-index in
    let n = get_or nodes i (Equation 0) in
    let h = c.loop-node.invariant in
    let node = reducing-node start c.args.at.now.context c.args.at.now.equation c.args.at.now.value c.args.at.now.formulas.now nodes os c.loop-node.done.items i n h c.loop-node-test.true (default_free nodes i _ n c.loop-node-test.true) in
    record {
      at_in = record { formulas = in_kept start os h.grows c.args.at.now.formulas.now c.requires.at_in.formulas; equation = IsIn-Grows start os h.grows c.args.at.now.equation c.requires.at_in.equation; context = IsIn-Grows start os h.grows c.args.at.now.context c.requires.at_in.context };
      done_in = subst (All (IsFormIn os)) (sym c.as_slice.ensures.value) h.within;
      node = subst (λ l. (m : ℕ) × IsNode m (length l) n × (length l < length c.args.at.now.formulas.now)) (sym c.as_slice.ensures.value) (node.0, node.1, omega (arith, h.count, c.loop-node-test.true, c.requires.nodes.2));
    }

pub returns-in_err-take_looks_at-clause-grows : goal.returns-in_err-take_looks_at-clause-grows
returns-in_err-take_looks_at-clause-grows c = subst (Grows c.args.heap.now.objects) (sym c.take_looks_at.ensures) (Grows-trans _ _ _ c.loop-node.invariant.grows c.reduce.ensures.grows)

pub returns-in_err-push-clause-grows : goal.returns-in_err-push-clause-grows
returns-in_err-push-clause-grows c = subst (Grows c.args.heap.now.objects) (sym c.take_looks_at.ensures) (Grows-trans _ _ _ c.loop-node.invariant.grows c.reduce.ensures.grows)

pub loop-node-preserved : goal.loop-node-preserved
loop-node-preserved c =
    let start = c.args.heap.now.objects in
    let d = c.args.at.now.context in
    let e = c.args.at.now.equation in
    let formulas = c.args.at.now.formulas.now in
    let nodes = c.args.nodes.now in
    let os = c.loop-node.heap.objects in
    let made = c.in_ok-reduced.ensures in
    let n = get_or nodes c.loop-node.node-index (Equation 0) in
    let more = reducing-more start d e c.args.at.now.value formulas nodes os c.loop-node.done.items c.loop-node.node-index n c.loop-node.invariant c.loop-node-test.true (default_free nodes c.loop-node.node-index _ n c.loop-node-test.true)
    c.reduce.new.heap.objects c.in_ok-reduced.reduced c.requires.at_in.formulas c.requires.at_in.context c.requires.at_in.equation made.grows made.within
    (made.made ∙ ap (λ items. reduce (object_at os d) (object_at os e) c.args.at.now.value (map (object_at os) formulas) (each_at os items) n) c.as_slice.ensures.value) in
    let pushed = subst (λ items. IsReducing start d e c.args.at.now.value formulas nodes c.reduce.new.heap.objects items (c.loop-node.node-index + 1)) (sym c.in_ok-push.ensures.items) more in
    subst (λ h. IsReducing start d e c.args.at.now.value formulas nodes h c.push.new.self.items (c.loop-node.node-index + 1)) (sym c.take_looks_at.ensures) pushed

pub returns-clause-within : goal.returns-clause-within
returns-clause-within c = (c.loop-node.invariant.within, omega (arith, c.loop-node.invariant.count, c.loop-node-test.false))

pub returns-clause-made : goal.returns-clause-made
returns-clause-made c =
    reducing-ends c.args.heap.now.objects c.args.at.now.context c.args.at.now.equation c.args.at.now.value c.args.at.now.formulas.now c.args.nodes.now c.loop-node.heap.objects c.loop-node.done.items c.loop-node.node-index c.loop-node.invariant c.loop-node-test.false
