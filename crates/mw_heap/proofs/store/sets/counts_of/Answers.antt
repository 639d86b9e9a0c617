-- One more cell counts as what it is.
use Rattle.std.proofs.Common.{ap, arith}
use Rattle.mw_heap.specs.Cells.{one_if, is_large, is_named}
use Rattle.mw_heap.specs.declared.store.cell.Cell.TheVariants.{Small}
use Rattle.mw_heap.proofs.Counts.{AreCounted-suc, plain_counts}
use Rattle.mw_heap.proofs.store.sets.counts_of.Goals as goal
use Rattle.mw_heap.proofs.store.sets.counts_of.Goals.{in-Large, in-Symbol, in_default}

pub loop-cell-preserved : goal.loop-cell-preserved
loop-cell-preserved c =
    let next = AreCounted-suc c.args.cells.now c.loop-cell.cell-index (Small 0) c.loop-cell.naturals c.loop-cell.names c.match-cell.naturals c.match-cell.names c.loop-cell.invariant c.loop-cell-test.true in
    elim c.match-cell.branch [
      | in-Large w ↦ next (omega (arith, w.naturals-is, ap (λ x. one_if (is_large x)) w.in-Large.is)) (omega (arith, w.names-is, ap (λ x. one_if (is_named x)) w.in-Large.is))
      | in-Symbol w ↦ next (omega (arith, w.naturals-is, ap (λ x. one_if (is_large x)) w.in-Symbol.is)) (omega (arith, w.names-is, ap (λ x. one_if (is_named x)) w.in-Symbol.is))
      | in_default w ↦ let p = plain_counts _ w.in_default.not-Large w.in_default.not-Symbol in next (omega (arith, w.naturals-is, p.0)) (omega (arith, w.names-is, p.1))
    ]
