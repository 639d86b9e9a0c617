-- The reference checker's instantiation and induction are the tests on objects.
use Rattle.std.proofs.Common.{◌≡◌, eqb, [], ◌∷◌, Some, ap, ap₂, ◌∙◌}
use Rattle.mw_model.specs.Terms.Object.{Object, Natural, Symbol, Pair, named, symbol, same_object, T, car, cdr, second_of, third_of, has_members, truth_of, list2, list3}
use Rattle.mw_model.specs.Terms.Term.{Formula, formula_object, ArityTable, arity_of, table_object}
use Rattle.mw_model.specs.Values.Primitive.{Profile}
use Rattle.mw_model.specs.Laws.Rules.{or_object, not_object, is_substitution_object, object_is_instance}
use Rattle.mw_model.specs.Laws.RulesInduction.{is_list_object, length_object, are_case_objects, disjunction_object, hypotheses_object, steps_object, true_object, falls_object, all_falls_object, premises_object, object_is_induction}
use Rattle.mw_model.proofs.BuiltInAnswers.{answer, answer-body}
use Rattle.mw_reflect.proofs.ListAnswers.{and_then, listp-answer, len-answer, lenp-answer, pequal-answer, pnot-answer, por-answer}
use Rattle.mw_reflect.proofs.TestValues.{has_length-members}
use Rattle.mw_reflect.proofs.SubstituteAnswers.{substitute-answer, formula_substitute-answer}
use Rattle.mw_reflect.proofs.SubstitutionAnswers.{sigmap-answer, sigma_list_listp-answer}

module _ (P : Profile) where
  disjoin-answer : (x : Object) → answer P "LOGIC.DISJOIN" (x ∷ []) ≡ disjunction_object x
  disjoin-answer (Natural n) = answer-body P "LOGIC.DISJOIN" (Natural n ∷ [])
  disjoin-answer (Symbol s) = answer-body P "LOGIC.DISJOIN" (Symbol s ∷ [])
  disjoin-answer (Pair a (Natural n)) = answer-body P "LOGIC.DISJOIN" (Pair a (Natural n) ∷ [])
  disjoin-answer (Pair a (Symbol s)) = answer-body P "LOGIC.DISJOIN" (Pair a (Symbol s) ∷ [])
  disjoin-answer (Pair a (Pair b r)) = answer-body P "LOGIC.DISJOIN" (Pair a (Pair b r) ∷ []) ∙ (por-answer P _ _ ∙ ap (or_object a) (disjoin-answer (Pair b r)))

  module _ (F : Formula) where
    hypotheses-answer : (ss : Object) → answer P "LOGIC.IND-HYPS" (formula_object F ∷ ss ∷ []) ≡ hypotheses_object (formula_object F) ss
    hypotheses-answer (Natural n) = answer-body P "LOGIC.IND-HYPS" (formula_object F ∷ Natural n ∷ [])
    hypotheses-answer (Symbol s) = answer-body P "LOGIC.IND-HYPS" (formula_object F ∷ Symbol s ∷ [])
    hypotheses-answer (Pair s r) = answer-body P "LOGIC.IND-HYPS" (formula_object F ∷ Pair s r ∷ []) ∙ ap₂ Pair (pnot-answer P _ ∙ ap not_object (formula_substitute-answer P s F)) (hypotheses-answer r)

    steps-answer : (qs ss rest : Object) → answer P "LOGIC.IND-STEPS" (formula_object F ∷ qs ∷ ss ∷ rest ∷ []) ≡ steps_object (formula_object F) qs ss rest
    steps-answer (Natural n) ss rest = answer-body P "LOGIC.IND-STEPS" (formula_object F ∷ Natural n ∷ ss ∷ rest ∷ [])
    steps-answer (Symbol s) ss rest = answer-body P "LOGIC.IND-STEPS" (formula_object F ∷ Symbol s ∷ ss ∷ rest ∷ [])
    steps-answer (Pair q qs) ss rest =
        answer-body P "LOGIC.IND-STEPS" (formula_object F ∷ Pair q qs ∷ ss ∷ rest ∷ [])
        ∙ ap₂ Pair (disjoin-answer _ ∙ ap₂ (λ a b. disjunction_object (Pair (formula_object F) (Pair a b))) (pnot-answer P q) (hypotheses-answer (car ss))) (steps-answer qs (cdr ss) rest)

  falls-answer : (m q ss rest : Object) → answer P "LOGIC.IND-DEC" (m ∷ q ∷ ss ∷ rest ∷ []) ≡ falls_object m q ss rest
  falls-answer m q (Natural n) rest = answer-body P "LOGIC.IND-DEC" (m ∷ q ∷ Natural n ∷ rest ∷ [])
  falls-answer m q (Symbol s) rest = answer-body P "LOGIC.IND-DEC" (m ∷ q ∷ Symbol s ∷ rest ∷ [])
  falls-answer m q (Pair s r) rest =
      answer-body P "LOGIC.IND-DEC" (m ∷ q ∷ Pair s r ∷ rest ∷ [])
      ∙ ap₂ Pair (por-answer P _ _ ∙ ap₂ or_object (pnot-answer P q) (pequal-answer P _ _ ∙ ap (λ z. true_object (list3 (symbol "ORD<") z m)) (substitute-answer P s m))) (falls-answer m q r rest)

  all_falls-answer : (m qs ss : Object) → answer P "LOGIC.IND-DECS" (m ∷ qs ∷ ss ∷ []) ≡ all_falls_object m qs ss
  all_falls-answer m (Natural n) ss = answer-body P "LOGIC.IND-DECS" (m ∷ Natural n ∷ ss ∷ [])
  all_falls-answer m (Symbol s) ss = answer-body P "LOGIC.IND-DECS" (m ∷ Symbol s ∷ ss ∷ [])
  all_falls-answer m (Pair q qs) ss =
      answer-body P "LOGIC.IND-DECS" (m ∷ Pair q qs ∷ ss ∷ [])
      ∙ (ap (λ r. answer P "LOGIC.IND-DEC" (m ∷ q ∷ car ss ∷ r ∷ [])) (all_falls-answer m qs (cdr ss)) ∙ falls-answer m q (car ss) (all_falls_object m qs (cdr ss)))

  -- the premises, as the reference checker makes them
  abbrev premises_made : Object → Object → Object → Object → Object
  premises_made c m qs ss =
      Pair (answer P "LOGIC.DISJOIN" (Pair c qs ∷ [])) (answer P "LOGIC.IND-STEPS" (c ∷ qs ∷ ss ∷ Pair (answer P "LOGIC.PEQUAL" (list2 (symbol "ORDP") m ∷ list2 (symbol "QUOTE") T ∷ [])) (answer P "LOGIC.IND-DECS" (m ∷ qs ∷ ss ∷ [])) ∷ []))

  premises-answer : (F : Formula) (m qs ss : Object) → premises_made (formula_object F) m qs ss ≡ premises_object (formula_object F) m qs ss
  premises-answer F m qs ss =
      ap₂ Pair (disjoin-answer (Pair (formula_object F) qs))
      (steps-answer F qs ss _ ∙ ap₂ (λ a b. steps_object (formula_object F) qs ss (Pair a b)) (pequal-answer P _ _) (all_falls-answer m qs ss))

  module _ (A : ArityTable) (three : arity_of A (named "IF") ≡ Some 3) (F : Formula) where
    pub instantiation-answer : (c s : Object) → answer P "LOGIC.INSTANTIATION-OKP" (c ∷ formula_object F ∷ s ∷ table_object A ∷ []) ≡ truth_of (object_is_instance A c (formula_object F) s)
    instantiation-answer c s =
        answer-body P "LOGIC.INSTANTIATION-OKP" (c ∷ formula_object F ∷ s ∷ table_object A ∷ [])
        ∙ and_then (is_substitution_object A s) _ (sigmap-answer P A three s) (λ _. ap (λ v. truth_of (same_object c v)) (formula_substitute-answer P s F))

    pub induction-answer : (ps x : Object) → answer P "LOGIC.INDUCTION-OKP" (formula_object F ∷ ps ∷ x ∷ table_object A ∷ []) ≡ truth_of (object_is_induction A (formula_object F) ps x)
    induction-answer ps x =
        answer-body P "LOGIC.INDUCTION-OKP" (formula_object F ∷ ps ∷ x ∷ table_object A ∷ [])
        ∙ and_then (has_members 3 x) _ (lenp-answer P x 3 ∙ ap truth_of (has_length-members 3 x)) (λ _.
        and_then (is_list_object (second_of x)) _ (listp-answer P (second_of x)) (λ _.
        and_then (eqb (length_object (second_of x)) (length_object (third_of x))) _ (ap truth_of (ap₂ same_object (len-answer P (second_of x)) (len-answer P (third_of x)))) (λ _.
        and_then (are_case_objects A (third_of x)) _ (sigma_list_listp-answer P A three (third_of x)) (λ _.
        ap (λ v. truth_of (same_object ps v)) (premises-answer F (car x) (second_of x) (third_of x))))))
