-- The subproofs of those before the next one are found.
use Rattle.std.proofs.Common.{◌≡◌, ◌-◌, length}
use Rattle.mw_proof.proofs.Gathering.{Gathers}
use Rattle.mw_lower.proofs.parts.add_parts.Given as goal

abbrev pub invariant-loop-next : goal.invariant-loop-next
invariant-loop-next l = record {
  same : l.heap.objects ≡ l.fn.heap.objects;
  gathers : Gathers l.fn.heap.objects l.found.keys l.fn.proof l.next;
}

abbrev pub decreases-loop-next : goal.decreases-loop-next
decreases-loop-next l = length l.fn.heap.objects - l.next
