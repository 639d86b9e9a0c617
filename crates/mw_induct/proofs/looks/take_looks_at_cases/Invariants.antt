-- Looks are no objects.
use Rattle.std.proofs.Common.{◌≡◌}
use Rattle.mw_heap.specs.Objects.{IsIn}
use Rattle.mw_induct.proofs.looks.take_looks_at_cases.Given as goal

abbrev pub invariant-loop-substitutions : goal.invariant-loop-substitutions
invariant-loop-substitutions l = (l.heap.objects ≡ l.fn.heap.objects) × IsIn l.heap.objects l.rest

abbrev pub decreases-loop-substitutions : goal.decreases-loop-substitutions
decreases-loop-substitutions l = l.rest
