-- Nothing has changed, or what was noted waits.
use Rattle.std.proofs.lemmas.Result.{on_ok_weaker}
use Rattle.mw_term.proofs.Woken.{wakes-changed, wakes-none}
use Rattle.mw_term.proofs.watch.Watch.wake_if_changed.Goals as goal

pub returns-then-not-differs_from : goal.returns-then-not-differs_from
returns-then-not-differs_from c = wakes-none c.args.self.now c.args.part c.args.before.now c.args.after.now (c.differs_from.ensures c.if-not-differs_from.true)

pub returns : goal.returns
returns c = on_ok_weaker c.wake.result (λ woken. wakes-changed c.args.self.now c.wake.new.self c.args.part c.args.before.now c.args.after.now woken) c.wake.ensures
