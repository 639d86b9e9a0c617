-- The pairs so far.
use Rattle.std.proofs.Common.{take}
use Rattle.mw_define.specs.Blocks.{Each2, IsCounted}
use Rattle.mw_define.proofs.block.pairs_of.Given as goal

abbrev pub invariant-loop-draft : goal.invariant-loop-draft
invariant-loop-draft l = Each2 (IsCounted l.heap.objects) (take l.draft-index l.drafts) l.pairs.items
