-- What was fed may follow.
use Rattle.std.proofs.Common.{sym, subst}
use Rattle.mw_read.specs.Feeding.{IsReady}
use Rattle.mw_read.proofs.Feeding.{ready_fed}
use Rattle.mw_read.proofs.reader.Reader.feed.Goals as goal

pub returns-in_ok-add-clause-ready : goal.returns-in_ok-add-clause-ready
returns-in_ok-add-clause-ready c os r = ready_fed os c.args.self.now c.add.new.self c.args.piece.now c.in_ok-add.ensures.added c.requires.follows r

pub returns-in_err-add-clause-ready : goal.returns-in_err-add-clause-ready
returns-in_err-add-clause-ready c os r = subst (λ u. IsReady os (record c.args.self.now { unread = u })) (sym c.in_err-add.ensures.err) r
