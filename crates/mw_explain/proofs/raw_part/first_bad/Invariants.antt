-- The parts so far expand.
use Rattle.std.proofs.Common.{◌≡◌, ◌++◌, drop, map}
use Rattle.mw_heap.specs.Objects.{object_at, Grows}
use Rattle.mw_commands.specs.Commands.ExplanationTerms.{bad_raw}
use Rattle.mw_explain.specs.RawParts.{found_in}
use Rattle.mw_explain.proofs.raw_part.first_bad.Given as goal

abbrev pub invariant-loop-part : goal.invariant-loop-part
invariant-loop-part l = record {
  grows : Grows l.fn.heap.objects l.heap.objects;
  same : found_in (bad_raw (l.newer ++ l.older)) (map (object_at l.fn.heap.objects) (drop l.part-index l.parts)) ≡ found_in (bad_raw (l.newer ++ l.older)) (map (object_at l.fn.heap.objects) l.parts);
}
