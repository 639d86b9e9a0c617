-- Each event is a theorem that is proved from nothing.
use Rattle.mw_commands.proofs.TrialAccepted.{trial_is_accepted, trial_unrefused, trial_fits}
use Rattle.mw_commands.proofs.trial.trials_accepted.Goals as goal

pub returns-clause-accepted : goal.returns-clause-accepted
returns-clause-accepted c = trial_is_accepted

pub returns-clause-none_refused : goal.returns-clause-none_refused
returns-clause-none_refused c = trial_unrefused

pub returns-clause-fits : goal.returns-clause-fits
returns-clause-fits c = trial_fits
