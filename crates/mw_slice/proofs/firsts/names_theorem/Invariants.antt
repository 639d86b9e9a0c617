-- None of the objects before this one is headed by the word.
use Rattle.std.proofs.Common.{◌≡◌, ℕ, ◌<◌, false}
use Rattle.mw_commands.specs.Commands.Slice.{begins_with}
use Rattle.mw_heap.specs.Objects.{object_at}
use Rattle.mw_slice.proofs.firsts.names_theorem.Given as goal

abbrev pub invariant-loop-index : goal.invariant-loop-index
invariant-loop-index l = (r : ℕ) → r < l.index → begins_with "THEOREM" (object_at l.heap.objects r) ≡ false
