-- The marks stand over the heap as it grows.
use Rattle.mw_term.proofs.CallerLemmas.{AreMarks-grows}
use Rattle.mw_bad_steps.proofs.Looking.{IfOk-more}
use Rattle.mw_bad_steps.proofs.bad_step.first_bad_step.Goals as goal

pub returns-clause-marked : goal.returns-clause-marked
returns-clause-marked c = AreMarks-grows c.args.arity.now c.args.heap.now.objects c.look.new.heap.objects c.extend.new.self c.look.ensures.grows c.in_ok-extend.ensures.marked

pub returns-clause-bad : goal.returns-clause-bad
returns-clause-bad c = IfOk-more c.look.result _ _ (λ o h. h c.args.arity.now c.in_ok-extend.ensures.marked) c.look.ensures.bad
