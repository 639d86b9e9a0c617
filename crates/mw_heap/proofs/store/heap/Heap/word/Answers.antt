-- The symbol is made by its name.
use Rattle.std.proofs.Common.{◌≡◌, subst, IfOk}
use Rattle.mw_model.specs.Terms.Object.{Symbol, name_of_bytes}
use Rattle.mw_heap.specs.Objects.{object_at, IsIn}
use Rattle.mw_heap.proofs.store.heap.Heap.word.Goals as goal

pub returns-clause-made : goal.returns-clause-made
returns-clause-made c =
    let os = c.symbol.new.self.objects in
    subst (λ b. IfOk c.symbol.result (λ r. IsIn os r × (object_at os r ≡ Symbol (name_of_bytes b)))) c.name.ensures c.symbol.ensures.made
