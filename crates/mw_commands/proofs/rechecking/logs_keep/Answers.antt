-- The laws, from the lemmas of LogsTrue.
use Rattle.mw_commands.proofs.LogsTrue.{logged_keeps, log_of-keeps}
use Rattle.mw_commands.proofs.rechecking.logs_keep.Goals as goal

pub returns-clause-event : goal.returns-clause-event
returns-clause-event c = logged_keeps

pub returns-clause-entered : goal.returns-clause-entered
returns-clause-entered c = λ xs. (log_of-keeps xs).0

pub returns-clause-sound : goal.returns-clause-sound
returns-clause-sound c = λ xs. (log_of-keeps xs).1
