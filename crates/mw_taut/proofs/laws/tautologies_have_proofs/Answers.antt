-- The proof by cases from a table of the formula.
use Rattle.mw_taut.proofs.PureProofs.{has_pure_proof}
use Rattle.mw_taut.proofs.laws.tautologies_have_proofs.Goals as goal

pub returns : goal.returns
returns c = has_pure_proof
