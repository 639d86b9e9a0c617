-- A member of each list at a time. Where the other list ends this one must end.
use Rattle.std.proofs.Common.{sym, ◌∙◌}
use Rattle.mw_heap.specs.Objects.{object_at}
use Rattle.mw_heap.proofs.NoPair.{shown_no_pair}
use Rattle.mw_theory.proofs.ProofLists.{as_many-next, too_few, no_more}
use Rattle.mw_theory.proofs.proofs.has_as_many.Goals as goal

pub returns-in_default-view : goal.returns-in_default-view
returns-in_default-view c =
    let os = c.args.heap.now.objects in
    let rest = object_at os c.loop-more.rest in
    sym (c.loop-more.invariant.2 ∙ too_few (object_at os c.loop-more.others) rest _ _ c.in-Pair.ensures.shows.2 (shown_no_pair os c.view-in-Pair.result rest c.view-in-Pair.ensures.shows c.in_default-view.not-Pair))

pub loop-more-preserved : goal.loop-more-preserved
loop-more-preserved c =
    let o = object_at c.args.heap.now.objects in (
      c.in-Pair.ensures.shows.1,
      c.in-Pair-view.ensures.shows.1,
      c.loop-more.invariant.2 ∙ as_many-next (o c.loop-more.others) (o c.loop-more.rest) _ _ _ _ c.in-Pair.ensures.shows.2 c.in-Pair-view.ensures.shows.2,
    )

pub returns : goal.returns
returns c =
    let os = c.args.heap.now.objects in
    let others = object_at os c.loop-more.others in
    c.is_nil.ensures ∙ sym (c.loop-more.invariant.2 ∙ no_more others (object_at os c.loop-more.rest) (shown_no_pair os c.view.result others c.view.ensures.shows c.in_default.not-Pair))
