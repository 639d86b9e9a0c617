-- One draft after another.
use Rattle.mw_define.proofs.ReadDrafts.{drafts-next}
use Rattle.mw_define.proofs.drafts.drafts_of.Goals as goal

pub loop-first-preserved : goal.loop-first-preserved
loop-first-preserved c =
    let k = c.in-Some.ensures in
    drafts-next c.args.heap.now.objects c.args.list c.loop-first.drafts.items c.loop-first.rest c.in-Pair.first c.in-Pair.more c.loop-first.invariant c.in-Pair.ensures.shows.2 c.in-Some.draft c.push.new.self.items c.in-Pair.ensures.shows.1 k.0 k.1 c.in_ok-push.ensures.items
