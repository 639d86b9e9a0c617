-- What is left of both lists decides.
use Rattle.std.proofs.Common.{◌≡◌}
use Rattle.mw_model.specs.Terms.Object.{has_members}
use Rattle.mw_model.specs.Laws.RulesInduction.{length_object}
use Rattle.mw_heap.specs.Objects.{object_at, IsIn}
use Rattle.mw_theory.proofs.proofs.has_as_many.Given as goal

abbrev pub invariant-loop-more : goal.invariant-loop-more
invariant-loop-more l =
    IsIn l.heap.objects l.others
    × IsIn l.heap.objects l.rest
    × (has_members (length_object (object_at l.heap.objects l.fn.other)) (object_at l.heap.objects l.fn.list) ≡ has_members (length_object (object_at l.heap.objects l.others)) (object_at l.heap.objects l.rest))

abbrev pub decreases-loop-more : goal.decreases-loop-more
decreases-loop-more l = l.others
