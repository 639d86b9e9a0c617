-- The premises so far, and those of the cases that are left.
use Rattle.std.proofs.Common.{◌≡◌, ◌++◌, map, All}
use Rattle.mw_model.specs.Laws.RulesInduction.{all_falls_object}
use Rattle.mw_heap.specs.Objects.{object_at, IsIn, Grows}
use Rattle.mw_bad_steps.specs.Members.{members_in}
use Rattle.mw_bad_steps.proofs.PremisesPut.{AreLeft}
use Rattle.mw_bad_steps.proofs.falls.put_all_falls.Given as goal

abbrev pub invariant-loop-condition : goal.invariant-loop-condition
invariant-loop-condition l = record {
  grows : Grows l.fn.heap.objects l.heap.objects;
  left : AreLeft l.fn.heap.objects l.conditions l.left;
  within : All (IsIn l.heap.objects) l.premises.items;
  same : map (object_at l.heap.objects) l.premises.items ++ members_in (all_falls_object (object_at l.fn.heap.objects l.measure) (object_at l.fn.heap.objects l.conditions) (object_at l.fn.heap.objects l.left)) ≡ map (object_at l.fn.heap.objects) l.fn.premises.items ++ members_in (all_falls_object (object_at l.fn.heap.objects l.measure) (object_at l.fn.heap.objects l.fn.cases.conditions) (object_at l.fn.heap.objects l.fn.cases.substitutions));
}

abbrev pub decreases-loop-condition : goal.decreases-loop-condition
decreases-loop-condition l = l.conditions
