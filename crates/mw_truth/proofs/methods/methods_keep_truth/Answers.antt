-- The laws of the methods, from the lemmas.
use Rattle.mw_truth.proofs.MethodsTrue.{axiom_keeps, theorem_keeps, schema_keeps, equality_keeps, beta_keeps, base_keeps, expansion_keeps, contraction_keeps, associativity_keeps, cut_keeps, instantiation_keeps}
use Rattle.mw_truth.proofs.ProofsTrue.{induction_keeps}
use Rattle.mw_truth.proofs.methods.methods_keep_truth.Goals as goal

pub returns-clause-axiom : goal.returns-clause-axiom
returns-clause-axiom c = axiom_keeps

pub returns-clause-theorem : goal.returns-clause-theorem
returns-clause-theorem c = theorem_keeps

pub returns-clause-propositional_schema : goal.returns-clause-propositional_schema
returns-clause-propositional_schema c = schema_keeps

pub returns-clause-functional_equality : goal.returns-clause-functional_equality
returns-clause-functional_equality c = equality_keeps

pub returns-clause-beta_reduction : goal.returns-clause-beta_reduction
returns-clause-beta_reduction c = beta_keeps

pub returns-clause-base_eval : goal.returns-clause-base_eval
returns-clause-base_eval c = base_keeps

pub returns-clause-expansion : goal.returns-clause-expansion
returns-clause-expansion c = expansion_keeps

pub returns-clause-contraction : goal.returns-clause-contraction
returns-clause-contraction c = contraction_keeps

pub returns-clause-associativity : goal.returns-clause-associativity
returns-clause-associativity c = associativity_keeps

pub returns-clause-cut : goal.returns-clause-cut
returns-clause-cut c = cut_keeps

pub returns-clause-instantiation : goal.returns-clause-instantiation
returns-clause-instantiation c = instantiation_keeps

pub returns-clause-induction : goal.returns-clause-induction
returns-clause-induction c = induction_keeps
