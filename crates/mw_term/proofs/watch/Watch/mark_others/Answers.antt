-- None waits: all marks are right.
use Rattle.mw_term.specs.Settling.{Waits}
use Rattle.mw_term.proofs.Settled.{none-in, all-marks, settled-watch}
use Rattle.mw_term.proofs.watch.Watch.mark_others.Goals as goal

pub returns-clause-marked : goal.returns-clause-marked
returns-clause-marked c =
    let l = c.loop-i in
    all-marks c.args.arity.now c.args.heap.now.objects l.cells.items l.self l.invariant.size (Waits l.self) l.invariant.settling (none-in l.self l.invariant.none)

pub returns-clause-watch : goal.returns-clause-watch
returns-clause-watch c =
    let l = c.loop-i in
    settled-watch c.args.arity.now c.args.heap.now.objects l.cells.items l.self l.invariant.size l.invariant.settling l.invariant.none
