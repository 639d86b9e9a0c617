-- What is left of the disjunction and of the members decides.
use Rattle.std.proofs.Common.{◌≡◌}
use Rattle.mw_model.specs.Terms.Object.{Pair, same_object}
use Rattle.mw_model.specs.Laws.RulesInduction.{disjunction_object}
use Rattle.mw_heap.specs.Objects.{object_at, IsIn}
use Rattle.mw_induct.proofs.shapes.is_disjunction.Given as goal

abbrev pub invariant-loop-next : goal.invariant-loop-next
invariant-loop-next l =
    let o = object_at l.heap.objects in
    IsIn l.heap.objects l.rest × IsIn l.heap.objects l.first × IsIn l.heap.objects l.members × (same_object (o l.rest) (disjunction_object (Pair (o l.first) (o l.members))) ≡ same_object (o l.fn.x) (disjunction_object (Pair (o l.fn.a) (o l.fn.members))))

abbrev pub decreases-loop-next : goal.decreases-loop-next
decreases-loop-next l = l.members
