-- The text is that of a book.
use Rattle.mw_commands.proofs.ExplanationsAgain.{explanation_is_read, status_of_check}
use Rattle.mw_commands.proofs.explaining.explanations_again.Goals as goal

pub returns-clause-again : goal.returns-clause-again
returns-clause-again c = explanation_is_read

pub returns-clause-status : goal.returns-clause-status
returns-clause-status c = status_of_check
