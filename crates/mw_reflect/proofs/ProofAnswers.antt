-- LOGIC.PROOFP's value is the test of proofs: by recursion on the proof, with the subproofs' conclusions as formulas.
use Rattle.std.proofs.Common.{◌≡◌, ℕ, ◌+◌, Bool, true, false, ◌&&◌, ◌||◌, cond, eqb, List, [], ◌∷◌, Option, Some, None, refl, sym, ap, ap₂, ◌∙◌, arith, is_some}
use Rattle.std.proofs.lemmas.Bool.{ne_eqb}
use Rattle.mw_model.specs.Terms.Object.{Name, Object, Natural, Symbol, Pair, named, symbol, same_name, same_object, nil_name, NIL, T, car, second_of, third_of, fourth_of, truth_of, is_member}
use Rattle.mw_model.specs.Terms.Term.{Formula, formula_object, ArityTable, arity_of, table_object, is_function_name, is_formula}
use Rattle.mw_model.specs.Terms.Reading.{formula_of, and_more, when}
use Rattle.mw_model.specs.Values.Primitive.{Profile}
use Rattle.mw_model.specs.Proofs.Proof.{Method, Proves, proof, ProveEach, no_proofs, more_proofs}
use Rattle.mw_model.specs.Proofs.Judgment.{methods, method_among, follows, judge_step, judge, judge_each}
use Rattle.mw_model.specs.Laws.RulesInduction.{formulas_object, is_list_object, length_object}
use Rattle.mw_model.proofs.ReadBack.{formula_back}
use Rattle.mw_model.proofs.Judging.{judges_good, goods_judge}
use Rattle.mw_model.proofs.BuiltInAnswers.{answer, answer-body}
use Rattle.mw_truth.proofs.Reached.{second_conclusion}
use Rattle.mw_reflect.proofs.TestValues.{and_false, and_true, and_assoc, that-present}
use Rattle.mw_reflect.proofs.ListAnswers.{and_then, passes, listp-answer, len-answer, memberp-answer}
use Rattle.mw_reflect.proofs.FormulaAnswers.{formulap-answer}
use Rattle.mw_reflect.proofs.StepAnswers.{step-answer}

-- conclusions
pub conclusion_of-proof : (axioms theorems : Object) (A : ArityTable) (P : Profile) (p : Object) (F : Formula) → Proves axioms theorems A P p F → second_of p ≡ formula_object F
conclusion_of-proof axioms theorems A P p F (proof q ps x m G Fs h i gs r) = second_conclusion q _ _ ps x h

conclusions-answer : (axioms theorems : Object) (A : ArityTable) (P : Profile) (ps : Object) (Fs : List Formula) → ProveEach axioms theorems A P ps Fs → answer P "LOGIC.CONCLUSIONS" (ps ∷ []) ≡ formulas_object Fs
conclusions-answer axioms theorems A P ps Fs no_proofs = answer-body P "LOGIC.CONCLUSIONS" (NIL ∷ [])
conclusions-answer axioms theorems A P ps Fs (more_proofs p qs F Gs g gs) =
    answer-body P "LOGIC.CONCLUSIONS" (Pair p qs ∷ [])
    ∙ ap₂ Pair (answer-body P "LOGIC.CONCLUSION" (p ∷ []) ∙ conclusion_of-proof axioms theorems A P p F g) (conclusions-answer axioms theorems A P qs Gs gs)

-- two to four members
abbrev two_to_four : Object
two_to_four = Pair (Natural 2) (Pair (Natural 3) (Pair (Natural 4) NIL))

abbrev has_two_to_four : Object → Bool
has_two_to_four x = is_list_object x && is_member (Natural (length_object x)) two_to_four

five_or_more : (r : Object) → is_member (Natural (1 + (1 + (1 + (1 + (1 + length_object r)))))) two_to_four ≡ false
five_or_more r =
    let n = 1 + (1 + (1 + (1 + (1 + length_object r)))) in
    ap (λ b. b || (eqb n 3 || (eqb n 4 || false))) (ne_eqb n 2 (λ e. omega (arith, e)))
    ∙ (ap (λ b. b || (eqb n 4 || false)) (ne_eqb n 3 (λ e. omega (arith, e))) ∙ ap (λ b. b || false) (ne_eqb n 4 (λ e. omega (arith, e))))

four_members : (a b c d z : Object) → has_two_to_four (Pair a (Pair b (Pair c (Pair d z)))) ≡ same_object z NIL
four_members a b c d (Natural n) = refl
four_members a b c d (Symbol s) = and_true (same_name s nil_name)
four_members a b c d (Pair x y) = ap (λ t. is_list_object y && t) (five_or_more y) ∙ and_false (is_list_object y)

when_present : (a b : Bool) (o : Option Formula) → a ≡ b → (a && is_some o) ≡ is_some (when b o)
when_present a true o h = ap (λ t. t && is_some o) h
when_present a false o h = ap (λ t. t && is_some o) h

module _ (P : Profile) (A : ArityTable) (three_arguments : arity_of A (named "IF") ≡ Some 3) (names : (f : Name) (n : ℕ) → arity_of A f ≡ Some n → is_function_name f ≡ true) (axioms theorems : Object) where
  abbrev proof_value : Object → Object
  proof_value p = answer P "LOGIC.FLAG-PROOFP" (symbol "PROOF" ∷ p ∷ axioms ∷ theorems ∷ table_object A ∷ [])

  abbrev proofs_value : Object → Object
  proofs_value p = answer P "LOGIC.FLAG-PROOFP" (symbol "LIST" ∷ p ∷ axioms ∷ theorems ∷ table_object A ∷ [])

  kept : (b : Bool) (F : Formula) → b ≡ is_some (when b (Some F))
  kept true F = refl
  kept false F = refl

  step_present : (F : Formula) (Fs : List Formula) (x : Object) (o : Option Method) → is_formula A F ≡ true → passes (λ k. follows axioms theorems A P k F Fs x) o ≡ is_some (judge_step axioms theorems A P o (Some F) (Some Fs) x)
  step_present F Fs x None h = refl
  step_present F Fs x (Some k) h = ap (λ b. b && follows axioms theorems A P k F Fs x) (sym h) ∙ kept (is_formula A F && follows axioms theorems A P k F Fs x) F

  -- the step, where the conclusion is a formula and the subproofs are proofs
  last_part : (p : Object) (oF : Option Formula) (oFs : Option (List Formula)) → formula_of (second_of p) ≡ oF → judge_each axioms theorems A P (third_of p) ≡ oFs → passes (is_formula A) oF ≡ true → is_some oFs ≡ true → answer P "LOGIC.STEP-OKP" (p ∷ axioms ∷ theorems ∷ table_object A ∷ []) ≡ truth_of (is_some (judge_step axioms theorems A P (method_among methods (car p)) oF oFs (fourth_of p)))
  last_part p None oFs hF hs f g = cc
  last_part p (Some F) None hF hs f g = cc
  last_part p (Some F) (Some Fs) hF hs f g =
      let gs = judges_good axioms theorems A P (third_of p) Fs hs in
      let js = (goods_judge axioms theorems A P (third_of p) Fs gs).0 in
      step-answer P axioms theorems A three_arguments names F f Fs js (fourth_of p) p (sym (formula_back (second_of p) F hF)) (conclusions-answer axioms theorems A P (third_of p) Fs gs) refl
      ∙ ap truth_of (step_present F Fs (fourth_of p) (method_among methods (car p)) f)

  step_absent : (o : Option Method) (oF : Option Formula) (oFs : Option (List Formula)) (x : Object) → (passes (is_formula A) oF && (is_some oFs && is_some (judge_step axioms theorems A P o oF oFs x))) ≡ is_some (judge_step axioms theorems A P o oF oFs x)
  step_absent None oF oFs x = ap (λ t. passes (is_formula A) oF && t) (and_false (is_some oFs)) ∙ and_false (passes (is_formula A) oF)
  step_absent (Some k) None oFs x = refl
  step_absent (Some k) (Some F) None x = and_false (is_formula A F)
  step_absent (Some k) (Some F) (Some Fs) x = go (is_formula A F) (follows axioms theorems A P k F Fs x)
    where
      go : (a b : Bool) → (a && is_some (when (a && b) (Some F))) ≡ is_some (when (a && b) (Some F))
      go true b = refl
      go false b = refl

  abbrev judged_step : Object → Object → Option Formula
  judged_step y z = judge_step axioms theorems A P (method_among methods y) (formula_of (second_of (Pair y z))) (judge_each axioms theorems A P (third_of (Pair y z))) (fourth_of (Pair y z))

  by_parts : (y z : Object) → proofs_value (third_of (Pair y z)) ≡ truth_of (is_some (judge_each axioms theorems A P (third_of (Pair y z)))) → proof_value (Pair y z) ≡ truth_of (has_two_to_four (Pair y z) && is_some (judged_step y z))
  by_parts y z ih =
      answer-body P "LOGIC.FLAG-PROOFP" (symbol "PROOF" ∷ Pair y z ∷ axioms ∷ theorems ∷ table_object A ∷ [])
      ∙ (and_then (is_list_object (Pair y z)) _ (listp-answer P (Pair y z)) (λ _.
      and_then (is_member (Natural (length_object (Pair y z))) two_to_four) _ (ap (λ n. answer P "LOGIC.MEMBERP" (n ∷ two_to_four ∷ [])) (len-answer P (Pair y z)) ∙ memberp-answer P (Natural (length_object (Pair y z))) two_to_four) (λ _.
      and_then (passes (is_formula A) (formula_of (second_of (Pair y z)))) _ (formulap-answer P A three_arguments (second_of (Pair y z)) ∙ ap truth_of (that-present (is_formula A) (formula_of (second_of (Pair y z))))) (λ f.
      and_then (is_some (judge_each axioms theorems A P (third_of (Pair y z)))) _ ih (λ g.
      last_part (Pair y z) (formula_of (second_of (Pair y z))) (judge_each axioms theorems A P (third_of (Pair y z))) refl refl f g))))
      ∙ ap truth_of (ap (λ t. is_list_object (Pair y z) && (is_member (Natural (length_object (Pair y z))) two_to_four && t)) (step_absent (method_among methods y) (formula_of (second_of (Pair y z))) (judge_each axioms theorems A P (third_of (Pair y z))) (fourth_of (Pair y z))) ∙ and_assoc (is_list_object (Pair y z)) (is_member (Natural (length_object (Pair y z))) two_to_four) _))

  no_subproofs : proofs_value NIL ≡ T
  no_subproofs = answer-body P "LOGIC.FLAG-PROOFP" (symbol "LIST" ∷ NIL ∷ axioms ∷ theorems ∷ table_object A ∷ [])

  neither : (b c : Bool) → b ≡ false → truth_of (b && c) ≡ NIL
  neither b c h = ap (λ t. truth_of (t && c)) h

  more_present : (o : Option Formula) (q : Option (List Formula)) → (is_some o && is_some q) ≡ is_some (and_more o q)
  more_present None q = refl
  more_present (Some F) None = refl
  more_present (Some F) (Some Fs) = refl

  mutual
    proof-answer : (p : Object) → proof_value p ≡ truth_of (is_some (judge axioms theorems A P p))
    proof-answer (Natural n) = answer-body P "LOGIC.FLAG-PROOFP" (symbol "PROOF" ∷ Natural n ∷ axioms ∷ theorems ∷ table_object A ∷ [])
    proof-answer (Symbol n) = answer-body P "LOGIC.FLAG-PROOFP" (symbol "PROOF" ∷ Symbol n ∷ axioms ∷ theorems ∷ table_object A ∷ [])
    proof-answer (Pair m (Natural n)) = by_parts m (Natural n) no_subproofs
    proof-answer (Pair m (Symbol n)) = by_parts m (Symbol n) no_subproofs ∙ neither (has_two_to_four (Pair m (Symbol n))) _ (and_false (same_name n nil_name))
    proof-answer (Pair m (Pair c (Natural n))) = by_parts m (Pair c (Natural n)) no_subproofs
    proof-answer (Pair m (Pair c (Symbol s))) = by_parts m (Pair c (Symbol s)) no_subproofs ∙ ap truth_of (when_present (same_name s nil_name && true) (same_name s nil_name) _ (and_true (same_name s nil_name)))
    proof-answer (Pair m (Pair c (Pair ps (Natural n)))) = by_parts m (Pair c (Pair ps (Natural n))) (proofs-answer ps)
    proof-answer (Pair m (Pair c (Pair ps (Symbol s)))) = by_parts m (Pair c (Pair ps (Symbol s))) (proofs-answer ps) ∙ ap truth_of (when_present (same_name s nil_name && true) (same_name s nil_name) _ (and_true (same_name s nil_name)))
    proof-answer (Pair m (Pair c (Pair ps (Pair x z)))) = by_parts m (Pair c (Pair ps (Pair x z))) (proofs-answer ps) ∙ ap truth_of (when_present (has_two_to_four (Pair m (Pair c (Pair ps (Pair x z))))) (same_object z NIL) _ (four_members m c ps x z))

    proofs-answer : (ps : Object) → proofs_value ps ≡ truth_of (is_some (judge_each axioms theorems A P ps))
    proofs-answer (Natural n) = answer-body P "LOGIC.FLAG-PROOFP" (symbol "LIST" ∷ Natural n ∷ axioms ∷ theorems ∷ table_object A ∷ [])
    proofs-answer (Symbol s) = answer-body P "LOGIC.FLAG-PROOFP" (symbol "LIST" ∷ Symbol s ∷ axioms ∷ theorems ∷ table_object A ∷ []) ∙ go (same_name s nil_name)
      where
        go : (b : Bool) → truth_of b ≡ truth_of (is_some {T = List Formula} (cond b (Some []) None))
        go true = refl
        go false = refl
    proofs-answer (Pair p ps) =
        answer-body P "LOGIC.FLAG-PROOFP" (symbol "LIST" ∷ Pair p ps ∷ axioms ∷ theorems ∷ table_object A ∷ [])
        ∙ (and_then (is_some (judge axioms theorems A P p)) (is_some (judge_each axioms theorems A P ps)) (proof-answer p) (λ _. proofs-answer ps) ∙ ap truth_of (more_present (judge axioms theorems A P p) (judge_each axioms theorems A P ps)))

  pub proofp-answer : (p : Object) → answer P "LOGIC.PROOFP" (p ∷ axioms ∷ theorems ∷ table_object A ∷ []) ≡ truth_of (is_some (judge axioms theorems A P p))
  proofp-answer p = answer-body P "LOGIC.PROOFP" (p ∷ axioms ∷ theorems ∷ table_object A ∷ []) ∙ proof-answer p
