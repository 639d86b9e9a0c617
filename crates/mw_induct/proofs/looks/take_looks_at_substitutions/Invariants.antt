-- Looks are no objects.
use Rattle.std.proofs.Common.{◌≡◌}
use Rattle.mw_heap.specs.Objects.{IsIn}
use Rattle.mw_induct.proofs.looks.take_looks_at_substitutions.Given as goal

abbrev pub invariant-loop-s : goal.invariant-loop-s
invariant-loop-s l = (l.heap.objects ≡ l.fn.heap.objects) × IsIn l.heap.objects l.rest

abbrev pub decreases-loop-s : goal.decreases-loop-s
decreases-loop-s l = l.rest
