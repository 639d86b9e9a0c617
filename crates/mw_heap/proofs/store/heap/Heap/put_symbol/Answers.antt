-- The name's bytes are copied.
use Rattle.std.proofs.Common.{◌≡◌, subst, IfOk}
use Rattle.mw_model.specs.Terms.Object.{Symbol, name_of_bytes}
use Rattle.mw_heap.specs.Objects.{object_at, IsIn}
use Rattle.mw_heap.proofs.store.heap.Heap.put_symbol.Goals as goal

pub returns-clause-made : goal.returns-clause-made
returns-clause-made c =
    let os = c.put_name.new.self.objects in
    subst (λ b. IfOk c.put_name.result (λ r. IsIn os r × (object_at os r ≡ Symbol (name_of_bytes b)))) c.in_ok-owned.ensures.items c.put_name.ensures.made
