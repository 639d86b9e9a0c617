-- The names so far.
use Rattle.std.proofs.Common.{take}
use Rattle.mw_define.specs.Blocks.{AreNames}
use Rattle.mw_define.proofs.block.names_of.Given as goal

abbrev pub invariant-loop-draft : goal.invariant-loop-draft
invariant-loop-draft l = AreNames l.arity l.heap.objects (take l.draft-index l.drafts) l.names.keys
