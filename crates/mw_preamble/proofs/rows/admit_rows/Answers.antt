-- One row more.
use Rattle.std.proofs.Common.{sym, subst}
use Rattle.mw_preamble.proofs.RowsWalk.{Walks, Walks-row}
use Rattle.mw_preamble.proofs.rows.admit_rows.Goals as goal

pub loop-row-preserved : goal.loop-row-preserved
loop-row-preserved c =
    let shows = c.in-Pair.ensures.shows in
    let row = c.in_ok-axiom.ensures in
    subst (Walks c.args.heap.now.objects c.args.rows c.args.arity.now c.in-Pair.more c.admit_row.new.arity) (sym c.in_ok-push.ensures.items)
    (Walks-row _ _ _ _ _ _ _ _ _ _ c.loop-row.invariant shows.1 shows.2 row.within row.axiom row.arity)
