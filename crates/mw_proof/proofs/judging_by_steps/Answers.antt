-- The local test is exact.
use Rattle.mw_proof.proofs.StepExact.{judge-conclusion, is_proof-step}
use Rattle.mw_proof.proofs.judging_by_steps.Goals as goal

pub returns-clause-step : goal.returns-clause-step
returns-clause-step c = is_proof-step

pub returns-clause-conclusion : goal.returns-clause-conclusion
returns-clause-conclusion c = λ ax th A P p F h. (judge-conclusion ax th A P p F h).0
