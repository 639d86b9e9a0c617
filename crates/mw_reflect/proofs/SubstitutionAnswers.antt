-- LOGIC.SIGMAP, LOGIC.SIGMA-LISTP and LOGIC.SIGMA-LIST-LISTP are the tests for substitutions, lists of them, and lists of these.
use Rattle.std.proofs.Common.{◌≡◌, [], ◌∷◌, Some, ◌∙◌}
use Rattle.mw_model.specs.Terms.Object.{Object, Natural, Symbol, Pair, named, truth_of}
use Rattle.mw_model.specs.Terms.Term.{ArityTable, arity_of, table_object}
use Rattle.mw_model.specs.Values.Primitive.{Profile}
use Rattle.mw_model.specs.Laws.Rules.{is_term_object, is_variable_object, is_substitution_object}
use Rattle.mw_model.specs.Laws.RulesInduction.{are_substitution_objects, are_case_objects}
use Rattle.mw_model.proofs.BuiltInAnswers.{answer, answer-body}
use Rattle.mw_reflect.proofs.TestValues.{and_then}
use Rattle.mw_reflect.proofs.ListAnswers.{variablep-answer}
use Rattle.mw_reflect.proofs.TermAnswers.{termp-answer}

module _ (P : Profile) (A : ArityTable) (three : arity_of A (named "IF") ≡ Some 3) where
  pub sigmap-answer : (x : Object) → answer P "LOGIC.SIGMAP" (x ∷ table_object A ∷ []) ≡ truth_of (is_substitution_object A x)
  sigmap-answer (Natural n) = answer-body P "LOGIC.SIGMAP" (Natural n ∷ table_object A ∷ [])
  sigmap-answer (Symbol s) = answer-body P "LOGIC.SIGMAP" (Symbol s ∷ table_object A ∷ [])
  sigmap-answer (Pair (Natural n) r) = answer-body P "LOGIC.SIGMAP" (Pair (Natural n) r ∷ table_object A ∷ [])
  sigmap-answer (Pair (Symbol s) r) = answer-body P "LOGIC.SIGMAP" (Pair (Symbol s) r ∷ table_object A ∷ [])
  sigmap-answer (Pair (Pair x t) r) =
      answer-body P "LOGIC.SIGMAP" (Pair (Pair x t) r ∷ table_object A ∷ [])
      ∙ and_then (is_variable_object x) _ (variablep-answer P x) (λ _. and_then (is_term_object A t) (is_substitution_object A r) (termp-answer P A three t) (λ _. sigmap-answer r))

  pub sigma_listp-answer : (x : Object) → answer P "LOGIC.SIGMA-LISTP" (x ∷ table_object A ∷ []) ≡ truth_of (are_substitution_objects A x)
  sigma_listp-answer (Natural n) = answer-body P "LOGIC.SIGMA-LISTP" (Natural n ∷ table_object A ∷ [])
  sigma_listp-answer (Symbol s) = answer-body P "LOGIC.SIGMA-LISTP" (Symbol s ∷ table_object A ∷ [])
  sigma_listp-answer (Pair a r) =
      answer-body P "LOGIC.SIGMA-LISTP" (Pair a r ∷ table_object A ∷ []) ∙ and_then (is_substitution_object A a) (are_substitution_objects A r) (sigmap-answer a) (λ _. sigma_listp-answer r)

  pub sigma_list_listp-answer : (x : Object) → answer P "LOGIC.SIGMA-LIST-LISTP" (x ∷ table_object A ∷ []) ≡ truth_of (are_case_objects A x)
  sigma_list_listp-answer (Natural n) = answer-body P "LOGIC.SIGMA-LIST-LISTP" (Natural n ∷ table_object A ∷ [])
  sigma_list_listp-answer (Symbol s) = answer-body P "LOGIC.SIGMA-LIST-LISTP" (Symbol s ∷ table_object A ∷ [])
  sigma_list_listp-answer (Pair a r) =
      answer-body P "LOGIC.SIGMA-LIST-LISTP" (Pair a r ∷ table_object A ∷ []) ∙ and_then (are_substitution_objects A a) (are_case_objects A r) (sigma_listp-answer a) (λ _. sigma_list_listp-answer r)
