-- The disjunction of the members from the index on is made.
use Rattle.std.proofs.Common.{◌≡◌, ◌<◌, length, drop}
use Rattle.mw_model.specs.Laws.RulesInduction.{disjunction_object}
use Rattle.mw_heap.specs.Objects.{object_at, IsIn, Grows}
use Rattle.mw_heap.specs.Lists.{list_object}
use Rattle.mw_bad_steps.proofs.disjunction.disjunction.Given as goal

abbrev pub invariant-loop-index : goal.invariant-loop-index
invariant-loop-index l = record {
  grows : Grows l.fn.heap.objects l.heap.objects;
  within : IsIn l.heap.objects l.made;
  some : l.index < length l.members;
  made : object_at l.heap.objects l.made ≡ disjunction_object (list_object l.fn.heap.objects (drop l.index l.members));
}
