-- The premises so far, and those of the rest.
use Rattle.std.proofs.Common.{◌≡◌, ◌++◌, map, All, true}
use Rattle.mw_model.specs.Terms.Object.{NIL}
use Rattle.mw_model.specs.Laws.RulesInduction.{falls_object}
use Rattle.mw_heap.specs.Objects.{object_at, IsIn, Grows}
use Rattle.mw_induct.specs.Pairs.{are_lists_of_pairs}
use Rattle.mw_bad_steps.specs.Members.{members_in}
use Rattle.mw_bad_steps.proofs.falls.put_falls.Given as goal

abbrev pub invariant-loop-s : goal.invariant-loop-s
invariant-loop-s l = record {
  grows : Grows l.fn.heap.objects l.heap.objects;
  rest : IsIn l.fn.heap.objects l.rest;
  pairs : are_lists_of_pairs (object_at l.fn.heap.objects l.rest) ≡ true;
  within : All (IsIn l.heap.objects) l.premises.items;
  same : map (object_at l.heap.objects) l.premises.items ++ members_in (falls_object (object_at l.fn.heap.objects l.measure) (object_at l.fn.heap.objects l.condition) (object_at l.fn.heap.objects l.rest) NIL) ≡ map (object_at l.fn.heap.objects) l.fn.premises.items ++ members_in (falls_object (object_at l.fn.heap.objects l.measure) (object_at l.fn.heap.objects l.condition) (object_at l.fn.heap.objects l.fn.substitutions) NIL);
}

abbrev pub decreases-loop-s : goal.decreases-loop-s
decreases-loop-s l = l.rest
