-- Each line is a comment, or a theorem with a proof that needs no axiom.
use Rattle.mw_commands.proofs.TautologiesAgain.{taut_is_accepted}
use Rattle.mw_commands.proofs.proving.tautologies_again.Goals as goal

pub returns : goal.returns
returns c = taut_is_accepted
