-- What is no disjunction is no step.
use Rattle.std.proofs.Common.{sym}
use Rattle.mw_induct.proofs.steps.is_step.Goals as goal

pub returns-in_default-clause-step : goal.returns-in_default-clause-step
returns-in_default-clause-step c = sym (c.in_default.ensures.members _ _)
