-- A witness is total since there is a first object in each non-empty class; its axiom is true where the witness is such an object.
use Rattle.mw_truth.proofs.Totals.{choice_total}
use Rattle.mw_truth.proofs.NewAxioms.{choice_good}
use Rattle.mw_truth.proofs.admission.witness.Goals as goal

pub returns-clause-total : goal.returns-clause-total
returns-clause-total c = λ D g y xs b t. choice_total D.profile D.blocks g y xs b t

pub returns-clause-axiom_holds : goal.returns-clause-axiom_holds
returns-clause-axiom_holds c = λ D g y xs b t w. choice_good D.profile g y xs b D.blocks w t
