-- A natural below 2^32 has a small cell, and no other object has one.
use Rattle.std.proofs.Common.{ap, arith}
use Rattle.mw_heap.proofs.Shown.{length-cells, shown, other_is_large}
use Rattle.mw_heap.proofs.store.heap.Heap.small_number.Goals as goal

pub cell_at-requires : goal.cell_at-requires
cell_at-requires c = omega (arith, c.requires, length-cells _ _ _ c.self.invariant.sound _ (ap (λ v. v.objects) c.self.view_is))

pub returns-in-Small : goal.returns-in-Small
returns-in-Small c = shown _ _ _ c.self.invariant.sound _ (ap (λ v. v.objects) c.self.view_is) _ _ c.in-Small.ensures

pub returns-in_default : goal.returns-in_default
returns-in_default c = other_is_large _ _ _ c.self.invariant.sound _ (ap (λ v. v.objects) c.self.view_is) _ _ c.cell_at.ensures c.in_default.not-Small
