-- A new cell goes last, and past the limit it is taken out again. Cells that are distinct by `==` are distinct.
use Rattle.std.proofs.Common.{◌≤◌, length, ◌∙◌, ap, take, arith}
use Rattle.mw_heap.proofs.Lists.{IsInjective-distinct}
use Rattle.mw_heap.proofs.Inserts.{cell_eq-refl, length-insert_key, take-insert_key}
use Rattle.mw_heap.specs.contracts.store.cell.CellPartialEq.TheImpl.{ghosts}
use Rattle.mw_heap.proofs.store.sets.insert_cell.Goals as goal

pub returns-then-index-lt-LIMIT-clause-distinct : goal.returns-then-index-lt-LIMIT-clause-distinct
returns-then-index-lt-LIMIT-clause-distinct c = IsInjective-distinct _ cell_eq-refl _ c.insert_full.ensures.unique

pub returns-then-index-lt-LIMIT-clause-few : goal.returns-then-index-lt-LIMIT-clause-few
returns-then-index-lt-LIMIT-clause-few c =
    let few : length c.args.cells.now.keys ≤ 4294967295 = omega (arith, c.requires) in
    let r = length-insert_key ghosts.eq c.args.cells.now.keys c.args.cell 4294967295 few (omega (arith, c.in_ok-index.ensures.index, c.if-index-lt-LIMIT.true)) in
    omega (arith, r, ap length c.in_ok-index.ensures.keys)

pub returns-clause-err : goal.returns-clause-err
returns-clause-err c =
    let few : length c.args.cells.now.keys ≤ 4294967295 = omega (arith, c.requires) in
    c.truncate.ensures.keys ∙ (ap (take 4294967295) c.in_ok-index.ensures.keys ∙ take-insert_key ghosts.eq c.args.cells.now.keys c.args.cell 4294967295 few (omega (arith, c.in_ok-index.ensures.index, c.if-index-lt-LIMIT.false)))
