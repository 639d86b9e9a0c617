-- The law of induction's goal, from the lemma.
use Rattle.mw_truth.proofs.ProofsTrue.{induction_passes}
use Rattle.mw_truth.proofs.methods.induction_descends.Goals as goal

pub returns : goal.returns
returns c = induction_passes
