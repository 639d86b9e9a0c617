-- The lemmas of EachLevel.
use Rattle.mw_reflect.proofs.EachLevel.{true_claim_true, run_true, any_event}
use Rattle.mw_reflect.proofs.claimed_runs.Goals as goal

pub returns-clause-true_claims : goal.returns-clause-true_claims
returns-clause-true_claims c = true_claim_true

pub returns-clause-runs : goal.returns-clause-runs
returns-clause-runs c = run_true

pub returns-clause-events : goal.returns-clause-events
returns-clause-events c = any_event
