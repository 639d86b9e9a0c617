-- Steps are read as steps, events as events, and each event gets a yes after its steps.
use Rattle.mw_commands.proofs.FlatteningsAgain.{flat_accepted}
use Rattle.mw_commands.proofs.flattening.flattenings_again.Goals as goal

pub returns : goal.returns
returns c = flat_accepted
