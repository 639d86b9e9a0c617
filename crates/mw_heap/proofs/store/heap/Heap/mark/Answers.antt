-- There are as many cells as objects.
use Rattle.std.proofs.Common.{ap, ◌∙◌}
use Rattle.mw_heap.proofs.Shown.{length-cells}
use Rattle.mw_heap.proofs.store.heap.Heap.mark.Goals as goal

pub returns : goal.returns
returns c = c.new.ensures ∙ (c.len.ensures.len ∙ length-cells _ _ _ c.self.invariant.sound _ (ap (λ v. v.objects) c.self.view_is))
