-- The last disjunct of what is left is that of the whole.
use Rattle.std.proofs.Common.{◌≡◌}
use Rattle.mw_model.specs.Laws.Rules.{last_disjunct_object}
use Rattle.mw_heap.specs.Objects.{object_at, IsIn}
use Rattle.mw_equal.proofs.equal_calls.last_disjunct.Given as goal

abbrev pub invariant-loop-later : goal.invariant-loop-later
invariant-loop-later l = IsIn l.heap.objects l.last × (last_disjunct_object (object_at l.heap.objects l.last) ≡ last_disjunct_object (object_at l.heap.objects l.fn.c))

abbrev pub decreases-loop-later : goal.decreases-loop-later
decreases-loop-later l = l.last
