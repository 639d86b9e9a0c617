-- The laws are the lemmas of Computed.
use Rattle.mw_descent.proofs.Computed.{ord_less_exact, ordp_exact}
use Rattle.mw_descent.proofs.ordinal_functions.Goals as goal

pub returns-clause-ord_less : goal.returns-clause-ord_less
returns-clause-ord_less c = ord_less_exact

pub returns-clause-ordp : goal.returns-clause-ordp
returns-clause-ordp c = ordp_exact
