-- The places that are known are right, and what is left of the formals begins at the next one.
use Rattle.std.proofs.Common.{◌≡◌, ◌+◌, List, drop, Some}
use Rattle.mw_model.specs.Terms.Object.{Name}
use Rattle.mw_model.specs.Terms.Reading.{names_of}
use Rattle.mw_heap.specs.Objects.{object_at, IsIn}
use Rattle.mw_code.specs.Places.{ArePlaces}
use Rattle.mw_code.proofs.scope.learn_places.Given as goal

abbrev pub invariant-loop-first : goal.invariant-loop-first
invariant-loop-first l = record {
  within : IsIn l.heap.objects l.rest;
  places : ArePlaces l.heap.objects l.places.entries;
  names : (xs : List Name) → names_of (object_at l.heap.objects l.formals) ≡ Some xs → names_of (object_at l.heap.objects l.rest) ≡ Some (drop l.place xs);
}

abbrev pub decreases-loop-first : goal.decreases-loop-first
decreases-loop-first l = l.rest + 1
