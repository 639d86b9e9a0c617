-- No object is twice in a sound heap, and a pair's parts are older.
use Rattle.std.proofs.Common.{ap}
use Rattle.mw_heap.proofs.Shown.{distinct_objects, parts_are_older}
use Rattle.mw_heap.proofs.store.heap.Heap.order.Goals as goal

pub returns-clause-distinct : goal.returns-clause-distinct
returns-clause-distinct c = distinct_objects _ _ _ c.self.invariant.sound _ (ap (λ v. v.objects) c.self.view_is)

pub returns-clause-older : goal.returns-clause-older
returns-clause-older c = parts_are_older _ _ _ c.self.invariant.sound _ (ap (λ v. v.objects) c.self.view_is)
