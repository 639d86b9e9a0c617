-- The members so far stand before those of the rest.
use Rattle.mw_heap.proofs.ListMembers.{AreMembers}
use Rattle.mw_heap.proofs.store.heap.Heap.list_members.Given as goal

abbrev pub invariant-loop-first : goal.invariant-loop-first
invariant-loop-first l = AreMembers l.self.objects l.fn.list l.members.items l.rest

abbrev pub decreases-loop-first : goal.decreases-loop-first
decreases-loop-first l = l.rest
