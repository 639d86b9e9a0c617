-- What the calls so far owe, after the ordinal.
use Rattle.mw_define.specs.Knowing.{AreKnown}
use Rattle.mw_define.proofs.OwedBlock.{CallsSoFar}
use Rattle.mw_define.proofs.owing.owe_found.Given as goal

abbrev pub invariant-loop-call : goal.invariant-loop-call
invariant-loop-call l = CallsSoFar l.fn.heap.objects l.heap.objects l.fn.block l.fn.function l.fn.owed l.owed l.fn.calls l.call-index × AreKnown l.heap.objects l.fn.known.names.keys l.known
