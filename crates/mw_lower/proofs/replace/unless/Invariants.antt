-- The disjunction for the last proofs.
use Rattle.std.proofs.Common.{◌≤◌, length, drop}
use Rattle.mw_heap.specs.Objects.{object_at, IsIn, Grows}
use Rattle.mw_heap.specs.Lists.{list_object}
use Rattle.mw_lower.specs.Unless.{MakesUnless}
use Rattle.mw_lower.proofs.replace.unless.Given as goal

abbrev pub invariant-loop-left : goal.invariant-loop-left
invariant-loop-left l = record {
  some : l.left ≤ length l.proofs;
  within : IsIn l.heap.objects l.whole;
  grows : Grows l.initial.heap.objects l.heap.objects;
  made : MakesUnless (object_at l.initial.heap.objects l.initial.whole) (list_object l.initial.heap.objects (drop l.left l.proofs)) (object_at l.heap.objects l.whole);
}

abbrev pub decreases-loop-left : goal.decreases-loop-left
decreases-loop-left l = l.left
