-- Each of the variables is tested.
use Rattle.mw_model.proofs.Closed.{closed_exactly}
use Rattle.mw_model.proofs.terms.closed_variables.Goals as goal

pub returns : goal.returns
returns c = closed_exactly
