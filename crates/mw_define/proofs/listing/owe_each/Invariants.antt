-- What the functions so far owe.
use Rattle.mw_define.specs.Knowing.{AreKnown}
use Rattle.mw_define.proofs.OwedBlock.{BlockSoFar}
use Rattle.mw_define.proofs.listing.owe_each.Given as goal

abbrev pub invariant-loop-function : goal.invariant-loop-function
invariant-loop-function l = BlockSoFar l.fn.heap.objects l.heap.objects l.fn.block l.function-index l.fn.owed l.owed l.recursion × AreKnown l.heap.objects l.fn.known.names.keys l.known
