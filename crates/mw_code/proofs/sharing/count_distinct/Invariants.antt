-- The cells that were put are in the heap.
use Rattle.std.proofs.Common.{All}
use Rattle.mw_heap.specs.Objects.{IsIn}
use Rattle.mw_code.proofs.sharing.count_distinct.Given as goal

abbrev pub invariant-loop-index : goal.invariant-loop-index
invariant-loop-index l = All (IsIn l.heap.objects) l.cells.keys
