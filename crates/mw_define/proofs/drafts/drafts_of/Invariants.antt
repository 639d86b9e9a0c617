-- The drafts so far, before the rest of the list.
use Rattle.mw_define.proofs.ReadDrafts.{DraftsSoFar}
use Rattle.mw_define.proofs.drafts.drafts_of.Given as goal

abbrev pub invariant-loop-first : goal.invariant-loop-first
invariant-loop-first l = DraftsSoFar l.heap.objects l.fn.list l.drafts.items l.rest

abbrev pub decreases-loop-first : goal.decreases-loop-first
decreases-loop-first l = l.rest
