-- What waits, what was counted, and that what was made needs nothing more.
use Rattle.mw_subst.proofs.Path.{IsPath, left}
use Rattle.mw_subst.proofs.Closed.{IsClosed}
use Rattle.mw_subst.proofs.Seen.{IsCounted}
use Rattle.mw_subst.proofs.walk.make.Given as goal

abbrev pub invariant-loop-part : goal.invariant-loop-part
invariant-loop-part g l = IsPath l.initial.heap.objects l.heap.objects l.sigma l.x l.memo.terms l.memo.lists l.path.items × IsCounted l.initial.heap.objects l.x l.memo.terms l.memo.lists l.path.items l.fn.steps l.steps × IsClosed l.initial.heap.objects l.memo.terms l.memo.lists

abbrev pub decreases-loop-part : goal.decreases-loop-part
decreases-loop-part g l = left l.x l.memo.terms l.memo.lists l.path.items
