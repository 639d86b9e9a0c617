-- The reference checker's rules on connectives, functional equality and beta reduction are the tests.
use Rattle.std.proofs.Common.{◌≡◌, [], List, ◌∷◌, refl, ap, ◌∙◌, length}
use Rattle.std.proofs.lemmas.Bool.{and_parts}
use Rattle.mw_model.specs.Terms.Object.{Name, Object, Symbol, Pair, same_object, NIL, second_of, third_of, truth_of}
use Rattle.mw_model.specs.Terms.Term.{Term, Terms, Variable, Constant, If, Call, Lambda, NoTerms, More, Formula, Equal, Not, Or, term_object, terms_object, formula_object, names_object, count, ArityTable, is_term, IsFormula}
use Rattle.mw_model.specs.Values.Primitive.{Profile}
use Rattle.mw_model.specs.Proofs.Judgment.{is_beta}
use Rattle.mw_model.specs.Laws.Rules.{is_or_object, not_object, or_object, object_is_schema, object_is_expansion, object_is_contraction, object_is_associativity, object_is_cut, actuals_object, substitute_object, object_is_beta}
use Rattle.mw_model.proofs.Formed.{Formed, formed}
use Rattle.mw_model.proofs.Readable.{formula_readable}
use Rattle.mw_model.proofs.RulesExact.{object_is_beta-exact}
use Rattle.mw_model.proofs.BuiltInAnswers.{answer, answer-body}
use Rattle.mw_reflect.proofs.ListAnswers.{and_then, pnot-answer, por-answer}
use Rattle.mw_reflect.proofs.SubstituteAnswers.{substitute-answer}

module _ (P : Profile) where
  pub schema-answer : (c : Object) → answer P "LOGIC.SCHEMA-OKP" (c ∷ []) ≡ truth_of (object_is_schema c)
  schema-answer c = answer-body P "LOGIC.SCHEMA-OKP" (c ∷ []) ∙ and_then (is_or_object c) _ refl (λ _. ap (λ v. truth_of (same_object (second_of c) v)) (pnot-answer P (third_of c)))

  pub expansion-answer : (c a : Object) → answer P "LOGIC.EXPANSION-OKP" (c ∷ a ∷ []) ≡ truth_of (object_is_expansion c a)
  expansion-answer c a = answer-body P "LOGIC.EXPANSION-OKP" (c ∷ a ∷ []) ∙ and_then (is_or_object c) _ refl (λ _. refl)

  pub contraction-answer : (c a : Object) → answer P "LOGIC.CONTRACTION-OKP" (c ∷ a ∷ []) ≡ truth_of (object_is_contraction c a)
  contraction-answer c a = answer-body P "LOGIC.CONTRACTION-OKP" (c ∷ a ∷ []) ∙ ap (λ v. truth_of (same_object a v)) (por-answer P c c)

  pub associativity-answer : (c a : Object) → answer P "LOGIC.ASSOCIATIVITY-OKP" (c ∷ a ∷ []) ≡ truth_of (object_is_associativity c a)
  associativity-answer c a =
      answer-body P "LOGIC.ASSOCIATIVITY-OKP" (c ∷ a ∷ []) ∙ and_then (is_or_object a) _ refl (λ _. and_then (is_or_object (third_of a)) _ refl (λ _.
      ap (λ v. truth_of (same_object c v)) (por-answer P (answer P "LOGIC.POR" (second_of a ∷ second_of (third_of a) ∷ [])) (third_of (third_of a)) ∙ ap (λ v. or_object v (third_of (third_of a))) (por-answer P (second_of a) (second_of (third_of a))))))

  pub cut-answer : (c a b : Object) → answer P "LOGIC.CUT-OKP" (c ∷ a ∷ b ∷ []) ≡ truth_of (object_is_cut c a b)
  cut-answer c a b =
      answer-body P "LOGIC.CUT-OKP" (c ∷ a ∷ b ∷ []) ∙ and_then (is_or_object a) _ refl (λ _. and_then (is_or_object b) _ refl (λ _.
      and_then (same_object (second_of b) (not_object (second_of a))) _ (ap (λ v. truth_of (same_object (second_of b) v)) (pnot-answer P (second_of a))) (λ _.
      ap (λ v. truth_of (same_object c v)) (por-answer P (third_of a) (third_of b)))))

  -- beta reduction
  pair-answer : (xs : List Name) (ts : Terms) → length xs ≡ count ts → answer P "LOGIC.PAIR" (names_object xs ∷ terms_object ts ∷ []) ≡ actuals_object (names_object xs) (terms_object ts)
  pair-answer [] ts e = answer-body P "LOGIC.PAIR" (NIL ∷ terms_object ts ∷ [])
  pair-answer (x ∷ xs) NoTerms e = absurd (cc e)
  pair-answer (x ∷ xs) (More t ts) e = answer-body P "LOGIC.PAIR" (names_object (x ∷ xs) ∷ terms_object (More t ts) ∷ []) ∙ ap (Pair (Pair (Symbol x) (term_object t))) (pair-answer xs ts (cc e))

  module _ (A : ArityTable) where
    beta_at : (l r : Term) → Formed A l → answer P "LOGIC.BETA-REDUCTION-OKP" (formula_object (Equal l r) ∷ []) ≡ truth_of (object_is_beta (formula_object (Equal l r)))
    beta_at (Variable x) r i = answer-body P "LOGIC.BETA-REDUCTION-OKP" (formula_object (Equal (Variable x) r) ∷ [])
    beta_at (Constant c) r i = answer-body P "LOGIC.BETA-REDUCTION-OKP" (formula_object (Equal (Constant c) r) ∷ [])
    beta_at (If a b c) r i = answer-body P "LOGIC.BETA-REDUCTION-OKP" (formula_object (Equal (If a b c) r) ∷ [])
    beta_at (Call f ts) r i = answer-body P "LOGIC.BETA-REDUCTION-OKP" (formula_object (Equal (Call f ts) r) ∷ [])
    beta_at (Lambda xs b ts) r i =
        answer-body P "LOGIC.BETA-REDUCTION-OKP" (formula_object (Equal (Lambda xs b ts) r) ∷ [])
        ∙ ap (λ v. truth_of (same_object (term_object r) v)) (substitute-answer P _ (term_object b) ∙ ap (λ s. substitute_object s (term_object b)) (pair-answer xs ts i.3))

    pub beta-answer : (F : Formula) → IsFormula A F → answer P "LOGIC.BETA-REDUCTION-OKP" (formula_object F ∷ []) ≡ truth_of (is_beta F)
    beta-answer (Equal l r) i = beta_at l r (formed A l (and_parts (is_term A l) (is_term A r) i).0) ∙ ap truth_of (object_is_beta-exact (Equal l r) (formula_readable A (Equal l r) i))
    beta-answer (Not F) i = answer-body P "LOGIC.BETA-REDUCTION-OKP" (formula_object (Not F) ∷ [])
    beta-answer (Or F G) i = answer-body P "LOGIC.BETA-REDUCTION-OKP" (formula_object (Or F G) ∷ [])
