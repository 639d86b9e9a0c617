-- Each proof comes after its subproofs, and is numbered as its step is.
use Rattle.mw_commands.proofs.FlatLogged.{flat_is_logged}
use Rattle.mw_commands.proofs.flattening.flattening.Goals as goal

pub returns : goal.returns
returns c = flat_is_logged
