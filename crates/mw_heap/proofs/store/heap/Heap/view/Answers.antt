-- Each cell shows its object.
use Rattle.std.proofs.Common.{length, get_or, sym, ap, ap₂, ◌∙◌, arith}
use Rattle.mw_model.specs.Terms.Object.{Natural, Pair}
use Rattle.mw_model.specs.Values.Primitive.{is_symbol}
use Rattle.mw_heap.specs.Objects.{object_at}
use Rattle.mw_heap.proofs.Shown.{length-cells, shown, in_range, parts_older, parts_in, large_within}
use Rattle.mw_heap.proofs.store.heap.Heap.view.Goals as goal

pub cell_at-requires : goal.cell_at-requires
cell_at-requires c = omega (arith, c.requires, length-cells _ _ _ c.self.invariant.sound _ (ap (λ v. v.objects) c.self.view_is))

pub bounds-as_slice-i : goal.bounds-as_slice-i
bounds-as_slice-i c = omega (arith, large_within _ _ _ c.self.invariant.sound _ (ap (λ v. v.objects) c.self.view_is) _ _ c.in-Large.ensures, ap length c.as_slice.ensures.keys)

pub returns-in-Small-clause-shows : goal.returns-in-Small-clause-shows
returns-in-Small-clause-shows c = shown _ _ _ c.self.invariant.sound _ (ap (λ v. v.objects) c.self.view_is) _ _ c.in-Small.ensures

pub returns-in-Small-clause-in_range : goal.returns-in-Small-clause-in_range
returns-in-Small-clause-in_range c = in_range _ _ _ c.self.invariant.sound _ (ap (λ v. v.objects) c.self.view_is) _ _ c.in-Small.ensures

pub returns-in-Large-clause-shows : goal.returns-in-Large-clause-shows
returns-in-Large-clause-shows c = shown _ _ _ c.self.invariant.sound _ (ap (λ v. v.objects) c.self.view_is) _ _ c.in-Large.ensures ∙ ap (λ l. Natural (get_or l c.in-Large.i 0)) (sym c.as_slice.ensures.keys)

pub returns-in-Large-clause-in_range : goal.returns-in-Large-clause-in_range
returns-in-Large-clause-in_range c = in_range _ _ _ c.self.invariant.sound _ (ap (λ v. v.objects) c.self.view_is) _ _ c.in-Large.ensures

pub returns-in-Symbol-clause-shows : goal.returns-in-Symbol-clause-shows
returns-in-Symbol-clause-shows c = ap is_symbol (shown _ _ _ c.self.invariant.sound _ (ap (λ v. v.objects) c.self.view_is) _ _ c.in-Symbol.ensures)

pub returns-in-Symbol-clause-in_range : goal.returns-in-Symbol-clause-in_range
returns-in-Symbol-clause-in_range c = in_range _ _ _ c.self.invariant.sound _ (ap (λ v. v.objects) c.self.view_is) _ _ c.in-Symbol.ensures

pub returns-in-Pair-clause-shows : goal.returns-in-Pair-clause-shows
returns-in-Pair-clause-shows c =
    let within = parts_in _ _ _ c.self.invariant.sound _ (ap (λ v. v.objects) c.self.view_is) _ _ _ c.in-Pair.ensures in
    let os = c.args.self.now.objects in (
      omega (arith, within.0, c.new.ensures),
      omega (arith, within.1, c.new-in-Pair.ensures),
      shown _ _ _ c.self.invariant.sound _ (ap (λ v. v.objects) c.self.view_is) _ _ c.in-Pair.ensures ∙ ap₂ Pair (ap (object_at os) (sym c.new.ensures)) (ap (object_at os) (sym c.new-in-Pair.ensures)),
    )

pub returns-in-Pair-clause-below : goal.returns-in-Pair-clause-below
returns-in-Pair-clause-below c =
    let older = parts_older _ _ _ c.self.invariant.sound _ (ap (λ v. v.objects) c.self.view_is) _ _ _ c.in-Pair.ensures in
    (omega (arith, older.0, c.new.ensures), omega (arith, older.1, c.new-in-Pair.ensures))

pub returns-in-Pair-clause-in_range : goal.returns-in-Pair-clause-in_range
returns-in-Pair-clause-in_range c = in_range _ _ _ c.self.invariant.sound _ (ap (λ v. v.objects) c.self.view_is) _ _ c.in-Pair.ensures
