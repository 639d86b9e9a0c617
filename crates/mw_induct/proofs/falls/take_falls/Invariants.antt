-- The conclusions and the substitutions that are left decide. All is said over the heap at the start.
use Rattle.std.proofs.Common.{◌≡◌, ◌≤◌, length, drop}
use Rattle.mw_model.specs.Terms.Object.{Object, same_object}
use Rattle.mw_model.specs.Laws.RulesInduction.{falls_object}
use Rattle.mw_heap.specs.Objects.{object_at}
use Rattle.mw_induct.specs.Conclusions.{conclusions_object}
use Rattle.mw_induct.specs.Pairs.{AreSubstitutionsIn}
use Rattle.mw_induct.proofs.falls.take_falls.Given as goal

abbrev pub invariant-loop-s : goal.invariant-loop-s
invariant-loop-s l =
    let os = l.fn.heap.objects in
    let o = object_at os in
    (l.heap.objects ≡ os) × AreSubstitutionsIn os l.substitutions × (l.taken ≤ length l.conclusions)
    × ((rest : Object) → same_object (conclusions_object os l.conclusions) (falls_object (o l.measure) (o l.condition) (o l.fn.substitutions) rest) ≡ same_object (conclusions_object os (drop l.taken l.conclusions)) (falls_object (o l.measure) (o l.condition) (o l.substitutions) rest))

abbrev pub decreases-loop-s : goal.decreases-loop-s
decreases-loop-s l = l.substitutions
