-- Equal objects are one.
use Rattle.std.proofs.Common.{ap, ◌∙◌}
use Rattle.mw_heap.proofs.Shown.{same-object, distinct_objects}
use Rattle.mw_heap.proofs.store.heap.Heap.same.Goals as goal

pub returns-clause-same : goal.returns-clause-same
returns-clause-same c = c.eq.ensures ∙ same-object _ _ _ c.self.invariant.sound _ (ap (λ v. v.objects) c.self.view_is) _ _ c.requires.first_in c.requires.second_in

pub returns-clause-distinct : goal.returns-clause-distinct
returns-clause-distinct c = distinct_objects _ _ _ c.self.invariant.sound _ (ap (λ v. v.objects) c.self.view_is)
