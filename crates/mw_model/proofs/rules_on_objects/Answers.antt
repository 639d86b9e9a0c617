-- Each test's lemma.
use Rattle.mw_model.proofs.Formed.{formed}
use Rattle.mw_model.proofs.SubstituteObject.{substitute_object-is, substitute_formula_object-is}
use Rattle.mw_model.proofs.Readable.{term_readable, formula_readable}
use Rattle.mw_model.proofs.Follows.{member_true, row_is}
use Rattle.mw_model.proofs.Judging.{member_from, row_holds}
use Rattle.mw_model.proofs.RulesExact.{object_is_schema-exact, object_is_beta-exact, object_is_expansion-exact, object_is_contraction-exact, object_is_associativity-exact, object_is_cut-exact, object_is_instance-exact}
use Rattle.mw_model.proofs.EqualityExact.{object_is_functional_equality-exact}
use Rattle.mw_model.proofs.BaseEvalExact.{object_is_base_eval-exact}
use Rattle.mw_model.proofs.InductionExact.{object_is_induction-exact}
use Rattle.mw_model.proofs.rules_on_objects.Goals as goal

pub returns-clause-membership : goal.returns-clause-membership
returns-clause-membership c = λ x list. (member_true x list, member_from x list)

pub returns-clause-schema : goal.returns-clause-schema
returns-clause-schema c = λ A F i. object_is_schema-exact F (formula_readable A F i)

pub returns-clause-functional_equality : goal.returns-clause-functional_equality
returns-clause-functional_equality c = object_is_functional_equality-exact

pub returns-clause-beta : goal.returns-clause-beta
returns-clause-beta c = λ A F i. object_is_beta-exact F (formula_readable A F i)

pub returns-clause-base_eval : goal.returns-clause-base_eval
returns-clause-base_eval c = λ P A F i. object_is_base_eval-exact P F (formula_readable A F i)

pub returns-clause-expansion : goal.returns-clause-expansion
returns-clause-expansion c = λ A F G i j. object_is_expansion-exact F G (formula_readable A F i) (formula_readable A G j)

pub returns-clause-contraction : goal.returns-clause-contraction
returns-clause-contraction c = λ A F G i j. object_is_contraction-exact F G (formula_readable A F i) (formula_readable A G j)

pub returns-clause-associativity : goal.returns-clause-associativity
returns-clause-associativity c = λ A F G i j. object_is_associativity-exact F G (formula_readable A F i) (formula_readable A G j)

pub returns-clause-cut : goal.returns-clause-cut
returns-clause-cut c = λ A F G H i j k. object_is_cut-exact F G H (formula_readable A F i) (formula_readable A G j) (formula_readable A H k)

pub returns-clause-instance : goal.returns-clause-instance
returns-clause-instance c = λ A F G x i j. object_is_instance-exact A F G i j x

pub returns-clause-induction : goal.returns-clause-induction
returns-clause-induction c = object_is_induction-exact

pub returns-clause-substituted_term : goal.returns-clause-substituted_term
returns-clause-substituted_term c = λ A s t i. substitute_object-is s t (term_readable A t (formed A t i))

pub returns-clause-substituted_formula : goal.returns-clause-substituted_formula
returns-clause-substituted_formula c = λ A s F i. substitute_formula_object-is s F (formula_readable A F i)

pub returns-clause-table : goal.returns-clause-table
returns-clause-table c = λ axioms theorems A P m F Fs x i j. (row_is axioms theorems A P m F Fs x, λ h. row_holds axioms theorems A P m F Fs x h i j)
