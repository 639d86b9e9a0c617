-- The entries so far.
use Rattle.std.proofs.Common.{take}
use Rattle.mw_define.specs.Blocks.{Each2, IsClosedEntry}
use Rattle.mw_define.proofs.block.close_all.Given as goal

abbrev pub invariant-loop-draft : goal.invariant-loop-draft
invariant-loop-draft l = Each2 (IsClosedEntry l.heap.objects) (take l.draft-index l.expanded) l.entries.items
