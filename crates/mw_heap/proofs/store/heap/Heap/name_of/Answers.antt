-- A symbol's cell has its name.
use Rattle.std.proofs.Common.{◌≡◌, ◌<◌, length, get_or, sym, ap, ◌∙◌, arith}
use Rattle.mw_heap.proofs.NameSet.{length-bytes_of, get_or-bytes_of}
use Rattle.mw_heap.proofs.Shown.{length-cells, name_within, name_bytes, symbol_cell}
use Rattle.mw_heap.proofs.store.heap.Heap.name_of.Goals as goal

pub cell_at-requires : goal.cell_at-requires
cell_at-requires c = omega (arith, c.requires.within, length-cells _ _ _ c.self.invariant.sound _ (ap (λ v. v.objects) c.self.view_is))

pub bounds-as_slice-i : goal.bounds-as_slice-i
bounds-as_slice-i c =
    let within = name_within _ _ _ c.self.invariant.sound _ (ap (λ v. v.objects) c.self.view_is) _ _ c.in-Symbol.ensures in
    omega (arith, within, length-bytes_of c.self.inside.names.keys, ap length c.as_slice.ensures.keys)

pub unreachable-requires : goal.unreachable-requires
unreachable-requires c = symbol_cell _ _ _ c.self.invariant.sound _ (ap (λ v. v.objects) c.self.view_is) _ _ c.cell_at.ensures c.requires.symbol c.in_default.not-Symbol

pub returns : goal.returns
returns c =
    let names = c.self.inside.names.keys in
    let name = c.index-as_slice-i.result in
    let in_bytes = name_within _ _ _ c.self.invariant.sound _ (ap (λ v. v.objects) c.self.view_is) _ _ c.in-Symbol.ensures in
    let within : c.in-Symbol.i < length names = omega (arith, in_bytes, length-bytes_of names) in
    let at : name ≡ get_or names c.in-Symbol.i name = c.index-as_slice-i.is ∙ ap (λ l. get_or l c.in-Symbol.i name) c.as_slice.ensures.keys in
    name_bytes _ _ _ c.self.invariant.sound _ (ap (λ v. v.objects) c.self.view_is) _ _ c.in-Symbol.ensures ∙ (get_or-bytes_of names c.in-Symbol.i name within at ∙ sym c.as_slice-in-Symbol.ensures.value)
