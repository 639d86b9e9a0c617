-- What waits, and what was made.
use Rattle.std.proofs.Common.{◌++◌}
use Rattle.mw_translate.proofs.Path.{IsPath, left}
use Rattle.mw_translate.proofs.walk.walk_along.Given as goal

abbrev pub invariant-loop-part : goal.invariant-loop-part
invariant-loop-part l = IsPath (l.newer ++ l.older) l.initial.heap.objects l.heap.objects l.fn.raw l.memo.made.entries l.path.items

abbrev pub decreases-loop-part : goal.decreases-loop-part
decreases-loop-part l = left l.fn.raw l.memo.made.entries l.path.items
