-- The laws are the lemmas of Normal.
use Rattle.std.proofs.Common.{refl}
use Rattle.mw_descent.proofs.Normal.{no_term, normal, ordinal-from}
use Rattle.mw_descent.proofs.shape_of_ordinals.Goals as goal

pub returns-clause-naturals : goal.returns-clause-naturals
returns-clause-naturals c = λ n. refl

pub returns-clause-symbols : goal.returns-clause-symbols
returns-clause-symbols c = λ x. refl

pub returns-clause-without_term : goal.returns-clause-without_term
returns-clause-without_term c = no_term

pub returns-clause-with_term : goal.returns-clause-with_term
returns-clause-with_term c = λ e c r. (normal e c r, ordinal-from e c r)
