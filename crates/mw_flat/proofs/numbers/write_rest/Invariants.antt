-- What is still to be written follows what is written.
use Rattle.std.proofs.Common.{◌≡◌, ◌++◌, map}
use Rattle.mw_model.specs.Texts.Printing.{tail_text}
use Rattle.mw_commands.specs.Commands.Flattening.{numbers_among}
use Rattle.mw_heap.specs.Objects.{object_at, IsIn}
use Rattle.mw_flat.proofs.numbers.write_rest.Given as goal

abbrev pub invariant-loop-p : goal.invariant-loop-p
invariant-loop-p l = record {
  within : IsIn l.heap.objects l.rest;
  text : l.line.items ++ tail_text (numbers_among (map (object_at l.heap.objects) l.complete.keys) (object_at l.heap.objects l.rest)) ≡ l.fn.line.items ++ tail_text (numbers_among (map (object_at l.heap.objects) l.complete.keys) (object_at l.heap.objects l.fn.list));
}

abbrev pub decreases-loop-p : goal.decreases-loop-p
decreases-loop-p l = l.rest
