-- A kept event meets a theory that has what the event uses, since what it uses was added by events that it rests on.
use Rattle.mw_commands.proofs.SlicesAgain.{slice_again}
use Rattle.mw_commands.proofs.slicing.slices_again.Goals as goal

pub returns : goal.returns
returns c = slice_again
