-- The tests are the same, in the same order.
use Rattle.mw_model.proofs.Demands.{as_before}
use Rattle.mw_model.proofs.theory.demands.Goals as goal

pub returns : goal.returns
returns c = as_before
