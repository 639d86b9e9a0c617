-- The first bad step.
use Rattle.mw_commands.specs.Commands.ExplanationSteps.{is_proof_at}
use Rattle.mw_commands.proofs.ExplainedSteps.{first_fails}
use Rattle.mw_commands.proofs.ExplainedProofs.{some_bad, proof_none, row_fails}
use Rattle.mw_commands.proofs.explaining.bad_steps.Goals as goal

pub returns-clause-some : goal.returns-clause-some
returns-clause-some c = some_bad

pub returns-clause-none : goal.returns-clause-none
returns-clause-none c = proof_none

pub returns-clause-there : goal.returns-clause-there
returns-clause-there c t p b h = (first_fails (is_proof_at t) p b h).there

pub returns-clause-fails : goal.returns-clause-fails
returns-clause-fails c t p b h = (first_fails (is_proof_at t) p b h).fails

pub returns-clause-row : goal.returns-clause-row
returns-clause-row c = row_fails

pub returns-clause-subproofs : goal.returns-clause-subproofs
returns-clause-subproofs c t p b h = (first_fails (is_proof_at t) p b h).subproofs
