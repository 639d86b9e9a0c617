-- The numbers of the proofs so far.
use Rattle.std.proofs.Common.{◌≡◌, map, take}
use Rattle.mw_commands.specs.Commands.Flattening.{number_among}
use Rattle.mw_heap.specs.Objects.{object_at}
use Rattle.mw_flat.proofs.number.numbers_of.Given as goal

abbrev pub invariant-loop-p : goal.invariant-loop-p
invariant-loop-p l = l.numbers.items ≡ map (λ r. number_among (map (object_at l.heap.objects) l.complete.keys) (object_at l.heap.objects r)) (take l.p-index l.proofs)
