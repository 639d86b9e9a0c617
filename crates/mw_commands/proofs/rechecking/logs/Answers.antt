-- The proofs of the steps that a step names are the subproofs of its own, and those of the steps that an event names are its proofs.
use Rattle.mw_commands.proofs.Logs.{steps_prove}
use Rattle.mw_commands.proofs.LogAccepted.{yes_is_accepted, no_leaves_theory}
use Rattle.mw_commands.proofs.rechecking.logs.Goals as goal

pub returns-clause-steps : goal.returns-clause-steps
returns-clause-steps c = steps_prove

pub returns-clause-yes : goal.returns-clause-yes
returns-clause-yes c = yes_is_accepted

pub returns-clause-no : goal.returns-clause-no
returns-clause-no c = no_leaves_theory
