-- The laws are the lemmas of Ordinals, Order and Normal.
use Rattle.mw_descent.proofs.Ordinals.{exponents_compare, coefficients_compare, rests_compare, atom_below_pair, pair_below_atom, atoms_compare}
use Rattle.mw_descent.proofs.Order.{irreflexive, transitive}
use Rattle.mw_descent.proofs.Normal.{total}
use Rattle.mw_descent.proofs.order_of_ordinals.Goals as goal

pub returns-clause-irreflexive : goal.returns-clause-irreflexive
returns-clause-irreflexive c = irreflexive

pub returns-clause-transitive : goal.returns-clause-transitive
returns-clause-transitive c = transitive

pub returns-clause-total : goal.returns-clause-total
returns-clause-total c = total

pub returns-clause-exponents : goal.returns-clause-exponents
returns-clause-exponents c = exponents_compare

pub returns-clause-coefficients : goal.returns-clause-coefficients
returns-clause-coefficients c = coefficients_compare

pub returns-clause-rests : goal.returns-clause-rests
returns-clause-rests c = rests_compare

pub returns-clause-below_each_pair : goal.returns-clause-below_each_pair
returns-clause-below_each_pair c = atom_below_pair

pub returns-clause-below_no_other : goal.returns-clause-below_no_other
returns-clause-below_no_other c = pair_below_atom

pub returns-clause-no_pairs : goal.returns-clause-no_pairs
returns-clause-no_pairs c = atoms_compare
