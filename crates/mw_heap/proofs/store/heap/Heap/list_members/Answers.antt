-- One member more, and the end.
use Rattle.mw_heap.specs.Objects.{object_at}
use Rattle.mw_heap.proofs.NoPair.{shown_no_pair}
use Rattle.mw_heap.proofs.ListMembers.{AreMembers-next, all_members}
use Rattle.mw_heap.proofs.store.heap.Heap.list_members.Goals as goal

pub loop-first-preserved : goal.loop-first-preserved
loop-first-preserved c =
    let shows = c.in-Pair.ensures.shows in
    AreMembers-next c.args.self.now.objects c.args.list _ _ _ _ _ c.loop-first.invariant shows.0 shows.1 shows.2 c.in_ok-push.ensures.items

pub returns : goal.returns
returns c =
    let os = c.args.self.now.objects in
    let rest = object_at os c.loop-first.rest in
    record {
      within = c.loop-first.invariant.within;
      members = all_members os c.args.list _ c.loop-first.rest c.loop-first.invariant (shown_no_pair os c.view.result rest c.view.ensures.shows c.in_default.not-Pair);
    }
