-- One more is put into the set.
use Rattle.mw_term.proofs.Woken.{one-added}
use Rattle.mw_term.proofs.watch.add_all.Goals as goal

pub loop-cell-preserved : goal.loop-cell-preserved
loop-cell-preserved c =
    one-added c.args.set.now.keys c.loop-cell.set.keys c.insert.new.self.keys c.args.cells.now c.loop-cell.cell-index c.cell-item.result c.loop-cell-test.true c.cell-item.is c.in_ok-insert.ensures.keys c.loop-cell.invariant
