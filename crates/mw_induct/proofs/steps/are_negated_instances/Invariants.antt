-- What is left of the disjunction and of the substitutions decides.
use Rattle.std.proofs.Common.{◌≡◌}
use Rattle.mw_model.specs.Terms.Object.{Pair, same_object}
use Rattle.mw_model.specs.Laws.RulesInduction.{disjunction_object, hypotheses_object}
use Rattle.mw_heap.specs.Objects.{object_at, IsIn}
use Rattle.mw_induct.specs.Pairs.{IsSubstitutionIn, AreSubstitutionsIn}
use Rattle.mw_induct.proofs.steps.are_negated_instances.Given as goal

abbrev pub invariant-loop-next : goal.invariant-loop-next
invariant-loop-next l =
    let os = l.fn.heap.objects in
    let o = object_at os in
    (l.heap.objects ≡ os) × IsIn os l.rest × IsSubstitutionIn os l.s × AreSubstitutionsIn os l.more
    × (same_object (o l.rest) (disjunction_object (hypotheses_object (o l.a) (Pair (o l.s) (o l.more)))) ≡ same_object (o l.fn.x) (disjunction_object (hypotheses_object (o l.a) (Pair (o l.fn.s) (o l.fn.more)))))

abbrev pub decreases-loop-next : goal.decreases-loop-next
decreases-loop-next l = l.more
