-- Once the items are done, the proof is complete.
use Rattle.mw_flat.proofs.Sizes.{items_size}
use Rattle.mw_flat.proofs.Walking.{IsWalking, then_known}
use Rattle.mw_flat.proofs.walk.complete_proof.Given as goal

abbrev pub invariant-loop-item : goal.invariant-loop-item
invariant-loop-item l = IsWalking l.heap.objects (then_known l.heap.objects l.fn.p l.fn.complete.keys l.fn.lists.keys) l.complete.keys l.lists.keys l.waiting.items

abbrev pub decreases-loop-item : goal.decreases-loop-item
decreases-loop-item l = items_size l.waiting.items
