-- What the part asks for was noted, or is asked for by what waits.
use Rattle.mw_slice.proofs.Walking.{IsWalking, waiting_load}
use Rattle.mw_slice.proofs.walk.gather.Given as goal

abbrev pub invariant-loop-part : goal.invariant-loop-part
invariant-loop-part l = IsWalking l.indexed.heap.now.objects l.indexed.firsts.now.entries l.fn.root l.fn.basis l.basis l.waiting.items

abbrev pub decreases-loop-part : goal.decreases-loop-part
decreases-loop-part l = waiting_load l.waiting.items
