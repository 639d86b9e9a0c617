-- The lemmas of Reflects.
use Rattle.mw_reflect.proofs.Reflects.{proofp_reflects, proofp_value}
use Rattle.mw_reflect.proofs.reference_checker.Goals as goal

pub returns-clause-says_yes : goal.returns-clause-says_yes
returns-clause-says_yes c = λ D begun e axioms theorems p. proofp_reflects D begun axioms theorems e p

pub returns-clause-value : goal.returns-clause-value
returns-clause-value c = λ D begun e axioms theorems p. proofp_value D begun axioms theorems e p
