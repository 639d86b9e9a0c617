-- What is meant is shown where it follows.
use Rattle.mw_commands.proofs.ExplainedProofs.{mended_follows}
use Rattle.mw_commands.proofs.explaining.mended_steps.Goals as goal

pub returns : goal.returns
returns c = mended_follows
