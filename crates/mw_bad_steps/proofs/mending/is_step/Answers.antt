-- The marks stand over the heap as it grows.
use Rattle.mw_term.proofs.CallerLemmas.{AreMarks-grows}
use Rattle.mw_bad_steps.proofs.Looking.{IfOk-more}
use Rattle.mw_bad_steps.proofs.mending.is_step.Goals as goal

pub returns-clause-marked : goal.returns-clause-marked
returns-clause-marked c = AreMarks-grows c.args.arity.now c.args.heap.now.objects c.decide_alone.new.heap.objects c.extend.new.self c.decide_alone.ensures.grows c.in_ok-extend.ensures.marked

pub returns-clause-answer : goal.returns-clause-answer
returns-clause-answer c = IfOk-more c.decide_alone.result _ _ (λ b h. h c.args.arity.now c.in_ok-extend.ensures.marked) c.decide_alone.ensures.answer
