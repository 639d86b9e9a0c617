-- What is left of the disjunction and of the two lists decides.
use Rattle.std.proofs.Common.{◌≡◌}
use Rattle.mw_model.specs.Terms.Object.{same_object}
use Rattle.mw_model.specs.Laws.Rules.{unless_equal_object}
use Rattle.mw_heap.specs.Objects.{object_at, IsIn}
use Rattle.mw_equal.proofs.equal_calls.is_unless_equal.Given as goal

abbrev pub invariant-loop-a : goal.invariant-loop-a
invariant-loop-a l =
    let o = object_at l.heap.objects in
    IsIn l.heap.objects l.rest × IsIn l.heap.objects l.firsts × IsIn l.heap.objects l.seconds × (same_object (o l.rest) (unless_equal_object (o l.firsts) (o l.seconds) (o l.end)) ≡ same_object (o l.fn.c) (unless_equal_object (o l.fn.firsts) (o l.fn.seconds) (o l.fn.end)))

abbrev pub decreases-loop-a : goal.decreases-loop-a
decreases-loop-a l = l.firsts
