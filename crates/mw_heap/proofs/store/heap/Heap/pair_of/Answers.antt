-- A pair's cell has its parts, which stand before it.
use Rattle.std.proofs.Common.{sym, ap, ap₂, ◌∙◌, arith}
use Rattle.mw_model.specs.Terms.Object.{Pair}
use Rattle.mw_heap.specs.Objects.{object_at}
use Rattle.mw_heap.proofs.Shown.{length-cells, shown, parts_older, parts_in, other_is_no_pair}
use Rattle.mw_heap.proofs.store.heap.Heap.pair_of.Goals as goal

pub cell_at-requires : goal.cell_at-requires
cell_at-requires c = omega (arith, c.requires, length-cells _ _ _ c.self.invariant.sound _ (ap (λ v. v.objects) c.self.view_is))

pub returns-in-Pair-clause-within : goal.returns-in-Pair-clause-within
returns-in-Pair-clause-within c =
    let within = parts_in _ _ _ c.self.invariant.sound _ (ap (λ v. v.objects) c.self.view_is) _ _ _ c.in-Pair.ensures in
    (omega (arith, within.0, c.new.ensures), omega (arith, within.1, c.new-in-Pair.ensures))

pub returns-in-Pair-clause-value : goal.returns-in-Pair-clause-value
returns-in-Pair-clause-value c =
    let os = c.args.self.now.objects in
    shown _ _ _ c.self.invariant.sound _ (ap (λ v. v.objects) c.self.view_is) _ _ c.in-Pair.ensures ∙ ap₂ Pair (ap (object_at os) (sym c.new.ensures)) (ap (object_at os) (sym c.new-in-Pair.ensures))

pub returns-in-Pair-clause-older : goal.returns-in-Pair-clause-older
returns-in-Pair-clause-older c =
    let older = parts_older _ _ _ c.self.invariant.sound _ (ap (λ v. v.objects) c.self.view_is) _ _ _ c.in-Pair.ensures in
    (omega (arith, older.0, c.new.ensures), omega (arith, older.1, c.new-in-Pair.ensures))

pub returns-in_default-clause-value : goal.returns-in_default-clause-value
returns-in_default-clause-value c = other_is_no_pair _ _ _ c.self.invariant.sound _ (ap (λ v. v.objects) c.self.view_is) _ _ c.cell_at.ensures c.in_default.not-Pair
