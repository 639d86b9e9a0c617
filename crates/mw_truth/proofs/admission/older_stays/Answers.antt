-- The laws are the lemmas of OlderTruth.
use Rattle.mw_truth.proofs.OlderTruth.{term_stays, value_to, value_from, formula_stays, true_to, true_from}
use Rattle.mw_truth.proofs.admission.older_stays.Goals as goal

pub returns-clause-terms : goal.returns-clause-terms
returns-clause-terms c = λ D B w t i. term_stays D.profile B D.blocks w t i

pub returns-clause-values : goal.returns-clause-values
returns-clause-values c = λ D B w e t v i. (value_to D.profile B D.blocks w e t v i, value_from D.profile B D.blocks w e t v i)

pub returns-clause-formulas : goal.returns-clause-formulas
returns-clause-formulas c = λ D B w F i. formula_stays D.profile B D.blocks w F i

pub returns-clause-truth : goal.returns-clause-truth
returns-clause-truth c = λ D B w F i. (λ h e. true_to D.profile B D.blocks w e F i (h e), λ h e. true_from D.profile B D.blocks w e F i (h e))
