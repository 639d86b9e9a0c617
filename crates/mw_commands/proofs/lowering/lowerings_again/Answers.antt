-- Each line is a comment, or an event with its proofs, which comes to what the derivations came to.
use Rattle.mw_commands.proofs.LoweringsAgain.{lowered_accepted, lowered_theory}
use Rattle.mw_commands.proofs.lowering.lowerings_again.Goals as goal

pub returns-clause-again : goal.returns-clause-again
returns-clause-again c = λ b N text w l. lowered_accepted N b text w l

pub returns-clause-theory : goal.returns-clause-theory
returns-clause-theory c = λ b N text w l. lowered_theory N b text w l
