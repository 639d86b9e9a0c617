-- What was counted and what is left are all members; and as many references are smaller than that of the list.
use Rattle.std.proofs.Common.{◌≡◌, ◌+◌, ◌≤◌}
use Rattle.mw_model.specs.Laws.RulesInduction.{length_object}
use Rattle.mw_heap.specs.Objects.{object_at, IsIn}
use Rattle.mw_theory.proofs.proofs.count_members.Given as goal

abbrev pub invariant-loop-more : goal.invariant-loop-more
invariant-loop-more l =
    IsIn l.heap.objects l.rest
    × (l.count + length_object (object_at l.heap.objects l.rest) ≡ length_object (object_at l.heap.objects l.fn.list))
    × (l.count + l.rest ≤ l.fn.list)

abbrev pub decreases-loop-more : goal.decreases-loop-more
decreases-loop-more l = l.rest
