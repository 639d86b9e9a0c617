-- The laws are the lemmas of Admits.
use Rattle.mw_truth.proofs.Admits.{goal_passes, block_total, axioms_hold}
use Rattle.mw_truth.proofs.admission.admission.Goals as goal

pub returns-clause-passes : goal.returns-clause-passes
returns-clause-passes c = λ D B M i. goal_passes D.profile D.blocks B M i

pub returns-clause-total : goal.returns-clause-total
returns-clause-total c = λ D B M i. block_total D.profile D.blocks B M i

pub returns-clause-axioms : goal.returns-clause-axioms
returns-clause-axioms c = λ D B M i. axioms_hold D.profile D.blocks B M i
