-- The conclusions, the conditions and the cases that are left decide. All is said over the heap at the start.
use Rattle.std.proofs.Common.{◌≡◌, ◌≤◌, length, drop}
use Rattle.mw_model.specs.Terms.Object.{same_object}
use Rattle.mw_model.specs.Laws.RulesInduction.{all_falls_object}
use Rattle.mw_heap.specs.Objects.{object_at}
use Rattle.mw_induct.specs.Conclusions.{conclusions_object}
use Rattle.mw_induct.specs.Scheme.{AreCases, falls_of}
use Rattle.mw_induct.proofs.falls.are_all_falls.Given as goal

abbrev pub invariant-loop-condition : goal.invariant-loop-condition
invariant-loop-condition l =
    let os = l.fn.heap.objects in
    let o = object_at os in
    (l.heap.objects ≡ os) × AreCases os l.conditions l.cases × (l.taken ≤ length l.conclusions)
    × (same_object (conclusions_object os l.conclusions) (falls_of os l.scheme) ≡ same_object (conclusions_object os (drop l.taken l.conclusions)) (all_falls_object (o l.measure) (o l.conditions) (o l.cases)))

abbrev pub decreases-loop-condition : goal.decreases-loop-condition
decreases-loop-condition l = l.conditions
