-- Looks are no objects.
use Rattle.std.proofs.Common.{◌≡◌}
use Rattle.mw_heap.specs.Objects.{IsIn}
use Rattle.mw_term.proofs.looks.take_searches_of_members.Given as goal

abbrev pub invariant-loop-more : goal.invariant-loop-more
invariant-loop-more l = (l.heap.objects ≡ l.fn.heap.objects) × IsIn l.heap.objects l.rest

abbrev pub decreases-loop-more : goal.decreases-loop-more
decreases-loop-more l = l.rest
