-- Naturals that are distinct by `==` are distinct.
use Rattle.std.proofs.Common.{refl, eq-eqb}
use Rattle.mw_heap.proofs.Lists.{IsInjective-distinct}
use Rattle.mw_heap.proofs.store.sets.insert_natural.Goals as goal

pub returns-clause-distinct : goal.returns-clause-distinct
returns-clause-distinct c = IsInjective-distinct _ (λ n. eq-eqb n n refl) _ c.in_ok-index.ensures.unique
