-- One more member, and the end.
use Rattle.std.proofs.Common.{ap}
use Rattle.mw_heap.specs.Objects.{object_at}
use Rattle.mw_heap.proofs.NoPair.{shown_no_pair}
use Rattle.mw_bad_steps.specs.Members.{members_in}
use Rattle.mw_explain.proofs.PuttingParts.{Walks-start, Walks-one, Walks-end, no-members}
use Rattle.mw_explain.proofs.raw_parts.put_members.Goals as goal

pub loop-first-init : goal.loop-first-init
loop-first-init c = Walks-start members_in _ _ _ c.requires

pub loop-first-preserved : goal.loop-first-preserved
loop-first-preserved c =
    let pair = c.in-Pair.ensures in
    Walks-one members_in _ _ _ _ _ c.loop-first.invariant c.in-Pair.first c.in-Pair.more _ (ap members_in pair.shows.2) pair.shows.1 pair.below.0 pair.below.1 c.in_ok-push.ensures.items

pub returns : goal.returns
returns c =
    let os = c.args.heap.now.objects in
    let rest = object_at os c.loop-first.rest in
    Walks-end members_in _ _ _ _ _ c.loop-first.invariant (no-members rest (shown_no_pair os c.view.result rest c.view.ensures.shows c.in_default.not-Pair))
