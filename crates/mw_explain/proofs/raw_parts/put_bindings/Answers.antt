-- One more binding, one that is no pair, and the end.
use Rattle.std.proofs.Common.{ap, arith, ◌∙◌}
use Rattle.mw_model.specs.Terms.Object.{Pair}
use Rattle.mw_heap.specs.Objects.{object_at}
use Rattle.mw_heap.proofs.NoPair.{shown_no_pair}
use Rattle.mw_explain.specs.RawParts.{binding_members}
use Rattle.mw_explain.proofs.PuttingParts.{Walks-start, Walks-more, Walks-end, no-bindings, no-binding}
use Rattle.mw_explain.proofs.raw_parts.put_bindings.Goals as goal

pub loop-binding-init : goal.loop-binding-init
loop-binding-init c = Walks-start binding_members _ _ _ c.requires

pub loop-binding-preserved : goal.loop-binding-preserved
loop-binding-preserved c =
    let pair = c.in-Pair.ensures in
    let values = c.in-Pair-view.ensures in
    let is = pair.shows.2 ∙ ap (λ b. Pair b (object_at c.args.heap.now.objects c.in-Pair.more)) values.shows.2 in
    Walks-more binding_members _ _ _ _ _ c.loop-binding.invariant _ c.in-Pair-view.values c.in-Pair.more _ (ap binding_members is) pair.shows.1 (omega (arith, values.below.1, pair.below.0)) pair.below.1 c.in_ok-put_members.ensures

pub returns-in_default-view : goal.returns-in_default-view
returns-in_default-view c =
    let os = c.args.heap.now.objects in
    let binding = object_at os c.in-Pair.binding in
    let none = no-binding binding (object_at os c.in-Pair.more) (shown_no_pair os c.view-in-Pair.result binding c.view-in-Pair.ensures.shows c.in_default-view.not-Pair) in
    Walks-end binding_members _ _ _ _ _ c.loop-binding.invariant (ap binding_members c.in-Pair.ensures.shows.2 ∙ none)

pub returns : goal.returns
returns c =
    let os = c.args.heap.now.objects in
    let rest = object_at os c.loop-binding.rest in
    Walks-end binding_members _ _ _ _ _ c.loop-binding.invariant (no-bindings rest (shown_no_pair os c.view.result rest c.view.ensures.shows c.in_default.not-Pair))
