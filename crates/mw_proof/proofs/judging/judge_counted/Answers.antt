-- No step was taken.
use Rattle.mw_proof.proofs.Gathering.{none_decided}
use Rattle.mw_proof.proofs.judging.judge_counted.Goals as goal

pub returns-in_default-clause-decided : goal.returns-in_default-clause-decided
returns-in_default-clause-decided g c = none_decided c.args.heap.now.objects c.args.proof c.args.steps.now
