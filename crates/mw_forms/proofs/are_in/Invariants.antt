-- Those so far are of the heap.
use Rattle.std.proofs.Common.{All, take}
use Rattle.mw_heap.specs.Objects.{IsIn}
use Rattle.mw_forms.proofs.are_in.Given as goal

abbrev pub invariant-loop-x : goal.invariant-loop-x
invariant-loop-x l = All (IsIn l.heap.objects) (take l.x-index l.xs)
