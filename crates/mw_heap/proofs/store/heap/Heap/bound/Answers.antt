-- The cells that can still be numbered are part of the room.
use Rattle.std.proofs.Common.{ap, arith}
use Rattle.mw_heap.proofs.Shown.{length-cells}
use Rattle.mw_heap.proofs.store.heap.Heap.bound.Goals as goal

pub returns : goal.returns
returns c =
    let cells = length-cells _ _ _ c.self.invariant.sound _ (ap (λ v. v.objects) c.self.view_is) in
    let few = c.self.invariant.sound.are_cells.few in
    let free = ap (λ v. v.spare) c.self.view_is in
    omega (arith, cells, few, free)
