-- The drafts so far, expanded.
use Rattle.std.proofs.Common.{◌++◌}
use Rattle.mw_define.proofs.Expanding.{ExpandedSoFar}
use Rattle.mw_define.proofs.block.expand_each.Given as goal

abbrev pub invariant-loop-draft : goal.invariant-loop-draft
invariant-loop-draft l = ExpandedSoFar (l.newer ++ l.older) l.older l.fn.heap.objects l.heap.objects l.fn.drafts l.draft-index l.expanded.items
