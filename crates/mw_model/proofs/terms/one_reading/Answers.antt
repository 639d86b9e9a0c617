-- What is written is read back, and what is read has its object.
use Rattle.mw_model.proofs.Formed.{formed}
use Rattle.mw_model.proofs.Read.{term_read, formula_read}
use Rattle.mw_model.proofs.ReadBack.{term_back, formula_back}
use Rattle.mw_model.proofs.terms.one_reading.Goals as goal

pub returns-clause-term : goal.returns-clause-term
returns-clause-term c = λ A t h. term_read A t (formed A t h)

pub returns-clause-object_of_term : goal.returns-clause-object_of_term
returns-clause-object_of_term c = term_back

pub returns-clause-formula : goal.returns-clause-formula
returns-clause-formula c = formula_read

pub returns-clause-object_of_formula : goal.returns-clause-object_of_formula
returns-clause-object_of_formula c = formula_back
