-- Each way to a refusal gives the theory back.
use Rattle.mw_model.proofs.Unchanged.{unchanged}
use Rattle.mw_model.proofs.theory.refusals.Goals as goal

pub returns : goal.returns
returns c = unchanged
