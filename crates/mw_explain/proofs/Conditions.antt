-- The conditions of a step whose subproofs are proofs, one after another.
use Rattle.std.proofs.Common.{◌≡◌, ℕ, zero, suc, Bool, true, false, not, cond, eqb, List, [], ◌∷◌, length, Option, Some, None, is_some, option_map, refl, sym, ap, ◌∙◌}
use Rattle.std.specs.Prelude.{option_to_list}
use Rattle.std.proofs.Math.Dec.{eqb-suc-zero, eqb-zero-suc, eqb-suc-suc}
use Rattle.mw_model.specs.Terms.Object.{Object, Natural, Symbol, Pair, symbol, same_name, nil_name, Member, first, later, car, second_of, third_of, fourth_of, has_members}
use Rattle.mw_model.specs.Terms.Term.{ArityTable, Formula, formula_object}
use Rattle.mw_model.specs.Terms.Reading.{and_more, formula_under}
use Rattle.mw_model.specs.Values.Definition.{arity_table}
use Rattle.mw_model.specs.Laws.Rules.{is_formula_object}
use Rattle.mw_model.specs.Laws.RulesInduction.{is_list_object}
use Rattle.mw_model.specs.Proofs.Proof.{Method, Induction}
use Rattle.mw_model.specs.Proofs.Judgment.{methods, method_among, judge, judge_each}
use Rattle.mw_model.specs.Events.Theory.{Theory}
use Rattle.mw_model.proofs.ReadBack.{and_more-back}
use Rattle.mw_commands.specs.Commands.ExplanationTerms.{bad_formula, part_shown}
use Rattle.mw_commands.specs.Commands.ExplanationSteps.{are_extras, has_proof_shape, is_proof_at, mended, step_shown, subproof_count, wrong_parts, wrong_row, wrong_step}
use Rattle.mw_explain.specs.declared.condition.Wrong.{Wrong}
use Rattle.mw_explain.specs.declared.condition.Wrong.TheVariants.{Shape, Method as WrongMethod, Formula as WrongFormula, Subproofs, Extras, Premises, Induction as WrongInduction, Rule}
use Rattle.mw_explain.specs.Condition.{IsPartIn, IsWrong, IsWrongRow}
use Rattle.mw_explain.proofs.LookingInFormulas.{formula_passes}

none_of : {X : Type 0} (o : Option X) → is_some o ≡ false → o ≡ None
none_of None h = refl
none_of (Some x) h = cc

some_of : {X : Type 0} (o : Option X) → is_some o ≡ true → (x : X) × (o ≡ Some x)
some_of None h = cc
some_of (Some x) h = (x, refl)

some_more : {X : Type 0} (o : Option X) (p : Option (List X)) → is_some o ≡ true → is_some (and_more o p) ≡ is_some p
some_more None p h = cc
some_more (Some x) None h = refl
some_more (Some x) (Some xs) h = refl

some_if : {X : Type 0} (x : X) (b : Bool) → is_some (cond b (Some x) None) ≡ b
some_if x true = refl
some_if x false = refl

-- ---- the subproofs

module _ (t : Theory) where
  abbrev A : ArityTable
  A = arity_table t.definitions

  abbrev conclusions : Object → Option (List Formula)
  conclusions ps = judge_each t.axioms t.theorems A t.definitions.profile ps

  -- proofs have conclusions exactly where they are a proper list, and as many
  proper : (ps : Object) → ((q : Object) → Member q ps → is_proof_at t q ≡ true) → is_some (conclusions ps) ≡ is_list_object ps
  proper (Natural n) f = refl
  proper (Symbol s) f = some_if [] (same_name s nil_name)
  proper (Pair p ps) f = some_more (judge t.axioms t.theorems A t.definitions.profile p) (conclusions ps) (f p (first ps)) ∙ proper ps (λ q i. f q (later p ps i))

  none_in : (s : Bool) (n : ℕ) (Fs : List Formula) → cond s (Some []) None ≡ Some Fs → eqb (length Fs) n ≡ cond (eqb 0 n) s false
  none_in false n Fs h = cc
  none_in true n [] h = elim (eqb 0 n) as (λ b. b ≡ cond b true false) [ true ↦ refl | false ↦ refl ]
  none_in true n (F ∷ Fs) h = cc

  as_many : (ps : Object) (Fs : List Formula) (n : ℕ) → conclusions ps ≡ Some Fs → eqb (length Fs) n ≡ has_members n ps
  as_many (Natural k) Fs n h = cc
  as_many (Symbol s) Fs zero h = none_in (same_name s nil_name) 0 Fs h
  as_many (Symbol s) Fs (suc n) h = none_in (same_name s nil_name) (suc n) Fs h ∙ ap (λ b. cond b (same_name s nil_name) false) (eqb-zero-suc n)
  as_many (Pair p ps) Fs zero h =
      let q = and_more-back (judge t.axioms t.theorems A t.definitions.profile p) (conclusions ps) Fs h in
      ap (λ l. eqb (length l) 0) q.4 ∙ eqb-suc-zero (length q.1)
  as_many (Pair p ps) Fs (suc n) h =
      let q = and_more-back (judge t.axioms t.theorems A t.definitions.profile p) (conclusions ps) Fs h in
      ap (λ l. eqb (length l) (suc n)) q.4 ∙ (eqb-suc-suc (length q.1) n ∙ as_many ps q.1 n q.3)

  -- ---- the step

  module _ (x : Object) where
    abbrev by_parts : Option Method → Option Formula → Option (List Formula) → List Object
    by_parts om oF oFs = step_shown x ∷ wrong_parts t x om oF oFs

    abbrev all_parts : List Object
    all_parts = by_parts (method_among methods (car x)) (formula_under A (second_of x)) (conclusions (third_of x))

    shaped : has_proof_shape x ≡ true → wrong_step t x ≡ all_parts
    shaped h = ap (λ b. cond b all_parts (x ∷ symbol "SHAPE" ∷ [])) h

    module _ (m : Method) (s : has_proof_shape x ≡ true) (is_m : method_among methods (car x) ≡ Some m) where
      by_method : wrong_step t x ≡ by_parts (Some m) (formula_under A (second_of x)) (conclusions (third_of x))
      by_method = shaped s ∙ ap (λ o. by_parts o (formula_under A (second_of x)) (conclusions (third_of x))) is_m

      pub no_formula : (part : Object) → bad_formula A (second_of x) ≡ Some part → wrong_step t x ≡ step_shown x ∷ symbol "FORMULA" ∷ part_shown A (Some part)
      no_formula part h =
          by_method ∙ (ap (λ o. by_parts (Some m) o (conclusions (third_of x))) (none_of (formula_under A (second_of x)) (go (is_formula_object A (second_of x)) refl)) ∙ ap (λ o. step_shown x ∷ symbol "FORMULA" ∷ part_shown A o) h)
        where
          go : (b : Bool) → is_formula_object A (second_of x) ≡ b → b ≡ false
          go false e = refl
          go true e = let k : None ≡ Some part = sym (formula_passes A (second_of x) e) ∙ h in cc

      module _ (F : Formula) (is_F : formula_under A (second_of x) ≡ Some F) where
        by_formula : wrong_step t x ≡ by_parts (Some m) (Some F) (conclusions (third_of x))
        by_formula = by_method ∙ ap (λ o. by_parts (Some m) o (conclusions (third_of x))) is_F

        without_conclusions : conclusions (third_of x) ≡ None → wrong_step t x ≡ step_shown x ∷ symbol "SUBPROOFS" ∷ []
        without_conclusions h = by_formula ∙ ap (by_parts (Some m) (Some F)) h

        module _ (Fs : List Formula) (is_Fs : conclusions (third_of x) ≡ Some Fs) where
          abbrev row : Method → List Object
          row k = wrong_row t.axioms t.theorems A t.definitions.profile k F Fs (fourth_of x)

          by_row : wrong_step t x ≡ step_shown x ∷ row m
          by_row = by_formula ∙ ap (by_parts (Some m) (Some F)) is_Fs

          abbrev rule_shown : Method → List Object
          rule_shown k = symbol "RULE" ∷ option_to_list (option_map formula_object (mended t.axioms t.theorems A t.definitions.profile k F Fs (fourth_of x)))

          abbrev count_shown : Method → List Object
          count_shown k = cond (not (eqb (length Fs) (subproof_count k))) (symbol "PREMISES" ∷ Natural (subproof_count k) ∷ []) (rule_shown k)

          abbrev tests_shown : Method → List Object
          tests_shown k = cond (not (are_extras A k (fourth_of x))) (symbol "EXTRAS" ∷ []) (count_shown k)

          by_tests : (k : Method) → (k ≡ Induction → ⊥) → row k ≡ tests_shown k
          by_tests Induction h = absurd (h refl)
          by_tests _ h = refl

          counted : (k : Method) (b : Bool) → has_members (subproof_count k) (third_of x) ≡ b → count_shown k ≡ cond (not b) (symbol "PREMISES" ∷ Natural (subproof_count k) ∷ []) (rule_shown k)
          counted k b h = ap (λ z. cond (not z) (symbol "PREMISES" ∷ Natural (subproof_count k) ∷ []) (rule_shown k)) (as_many (third_of x) Fs (subproof_count k) is_Fs ∙ h)

          with_extras : (m ≡ Induction → ⊥) → are_extras A m (fourth_of x) ≡ true → wrong_step t x ≡ step_shown x ∷ count_shown m
          with_extras n e = by_row ∙ ap (λ z. step_shown x ∷ z) (by_tests m n ∙ ap (λ b. cond (not b) (symbol "EXTRAS" ∷ []) (count_shown m)) e)

          row_wrong : (os : List Object) (w : Wrong) → IsWrongRow A m (third_of x) (fourth_of x) w → IsWrong t os x w
          row_wrong os Shape h = absurd h
          row_wrong os WrongMethod h = absurd h
          row_wrong os (WrongFormula p) h = absurd h
          row_wrong os Subproofs h = absurd h
          row_wrong os Extras h = by_row ∙ ap (λ z. step_shown x ∷ z) (by_tests m h.1 ∙ ap (λ b. cond (not b) (symbol "EXTRAS" ∷ []) (count_shown m)) h.0)
          row_wrong os (Premises n) h =
              with_extras h.3 h.0 ∙ ap (λ z. step_shown x ∷ z) (counted m false h.1 ∙ ap (λ k. symbol "PREMISES" ∷ Natural k ∷ []) (sym h.2))
          row_wrong os WrongInduction h = (s, F, is_F, by_row ∙ ap (λ k. step_shown x ∷ row k) h)
          row_wrong os Rule h = (m, F, Fs, is_m, is_F, is_Fs, with_extras h.2 h.0 ∙ ap (λ z. step_shown x ∷ z) (counted m true h.1), h.0, s)

      module _ (formed : is_formula_object A (second_of x) ≡ true) (f : (q : Object) → Member q (third_of x) → is_proof_at t q ≡ true) where
        pub no_list : is_list_object (third_of x) ≡ false → wrong_step t x ≡ step_shown x ∷ symbol "SUBPROOFS" ∷ []
        no_list h = let F = some_of (formula_under A (second_of x)) formed in without_conclusions F.0 F.1 (none_of (conclusions (third_of x)) (proper (third_of x) f ∙ h))

        pub wrong_by_row : (os : List Object) (w : Wrong) → is_list_object (third_of x) ≡ true → IsWrongRow A m (third_of x) (fourth_of x) w → IsWrong t os x w
        wrong_by_row os w h k =
            let F = some_of (formula_under A (second_of x)) formed in
            let Fs = some_of (conclusions (third_of x)) (proper (third_of x) f ∙ h) in
            row_wrong F.0 F.1 Fs.0 Fs.1 os w k

pub formed_at : (t : Theory) (A : ArityTable) (x : Object) → arity_table t.definitions ≡ A → is_formula_object A (second_of x) ≡ true → is_formula_object (arity_table t.definitions) (second_of x) ≡ true
formed_at t A x e h = ap (λ B. is_formula_object B (second_of x)) e ∙ h

-- the row alone names no part of the conclusion
pub row_part : (A : ArityTable) (m : Method) (ps x : Object) (os : List Object) (w : Wrong) → IsWrongRow A m ps x w → IsPartIn os w
row_part A m ps x os (WrongFormula p) h = absurd h
row_part A m ps x os _ h = tt
