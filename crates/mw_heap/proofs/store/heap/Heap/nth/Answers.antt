-- Each index is below the number of cells.
use Rattle.std.proofs.Common.{ap, arith}
use Rattle.mw_heap.proofs.Shown.{length-cells}
use Rattle.mw_heap.proofs.store.heap.Heap.nth.Goals as goal

pub overflow_cast-index : goal.overflow_cast-index
overflow_cast-index c = omega (arith, c.requires, length-cells _ _ _ c.self.invariant.sound _ (ap (λ v. v.objects) c.self.view_is), c.self.invariant.sound.are_cells.few)
