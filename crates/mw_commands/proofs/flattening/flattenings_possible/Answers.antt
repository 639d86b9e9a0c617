-- With labels where a datum is long.
use Rattle.mw_commands.proofs.FlatData.{flat_text, flat_written}
use Rattle.mw_commands.proofs.flattening.flattenings_possible.Goals as goal

pub returns : goal.returns
returns c = λ e. (flat_text e, flat_written e)
