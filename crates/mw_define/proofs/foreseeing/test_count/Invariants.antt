-- Each rest is in the heap, and older than the list before it. Then the lists are noted, the shortest first.
use Rattle.std.proofs.Common.{length}
use Rattle.mw_heap.specs.Objects.{IsIn}
use Rattle.mw_define.proofs.foreseeing.test_count.Given as goal

abbrev pub invariant-loop-more : goal.invariant-loop-more
invariant-loop-more l = IsIn l.fn.heap.objects l.rest

abbrev pub decreases-loop-more : goal.decreases-loop-more
decreases-loop-more l = l.rest

abbrev pub invariant-loop-list : goal.invariant-loop-list
invariant-loop-list l = Unit {0}

abbrev pub decreases-loop-list : goal.decreases-loop-list
decreases-loop-list l = length l.lists.items
