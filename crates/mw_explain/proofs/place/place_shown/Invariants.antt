-- The numbers from the index on are listed.
use Rattle.std.proofs.Common.{◌≡◌, drop, map}
use Rattle.mw_model.specs.Terms.Object.{Natural}
use Rattle.mw_heap.specs.Objects.{object_at, IsIn, Grows}
use Rattle.mw_commands.specs.Commands.ExplanationSteps.{listed}
use Rattle.mw_explain.proofs.place.place_shown.Given as goal

abbrev pub invariant-loop-index : goal.invariant-loop-index
invariant-loop-index l = record {
  grows : Grows l.fn.heap.objects l.heap.objects;
  within : IsIn l.heap.objects l.list;
  made : object_at l.heap.objects l.list ≡ listed (map Natural (drop l.index l.place));
}
