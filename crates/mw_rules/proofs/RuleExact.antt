-- The rule of a step, on the objects of formulas, is the table of methods.
use Rattle.std.proofs.Common.{◌≡◌, Bool, ◌&&◌, List, [], ◌∷◌, Some, refl, sym, ap, ◌∙◌}
use Rattle.mw_model.specs.Terms.Object.{Object, same_object, NIL, car, second_of, has_members, is_member}
use Rattle.mw_model.specs.Terms.Term.{Formula, formula_object, ArityTable, IsFormula}
use Rattle.mw_model.specs.Values.Primitive.{Profile}
use Rattle.mw_model.specs.Values.Truth.{Each}
use Rattle.mw_model.specs.Proofs.Proof.{Method, Axiom, Theorem, PropositionalSchema, FunctionalEquality, BetaReduction, BaseEval, Expansion, Contraction, Associativity, Cut, Instantiation, Induction}
use Rattle.mw_model.specs.Proofs.Judgment.{is_expansion, is_contraction, is_associativity, is_cut, is_instance, follows}
use Rattle.mw_model.proofs.Rows.{of_none, of_one, of_two, rows, follows-rows}
use Rattle.mw_model.specs.Terms.Substitution.{substitution_of}
use Rattle.mw_model.specs.Laws.Rules.{object_is_expansion, object_is_contraction, object_is_associativity, object_is_cut, object_is_instance}
use Rattle.mw_model.specs.Laws.RulesInduction.{formulas_object}
use Rattle.mw_model.proofs.Readable.{formula_readable}
use Rattle.mw_model.proofs.RulesExact.{object_is_schema-exact, object_is_beta-exact, object_is_expansion-exact, object_is_contraction-exact, object_is_associativity-exact, object_is_cut-exact, object_is_instance-exact}
use Rattle.mw_model.proofs.EqualityExact.{object_is_functional_equality-exact}
use Rattle.mw_model.proofs.BaseEvalExact.{object_is_base_eval-exact}
use Rattle.mw_model.proofs.InductionExact.{object_is_induction-exact}
use Rattle.mw_rules.specs.Step.{rule_holds}

-- no subproof, one, two
of_none-is : (test : Bool) (Fs : List Formula) → (has_members 0 (formulas_object Fs) && test) ≡ of_none test Fs
of_none-is test [] = refl
of_none-is test (F ∷ Fs) = refl

of_one-is : (A : ArityTable) (test : Formula → Bool) (object_test : Object → Bool) → ((F : Formula) → IsFormula A F → object_test (formula_object F) ≡ test F) → (Fs : List Formula) → Each (IsFormula A) Fs → (has_members 1 (formulas_object Fs) && object_test (car (formulas_object Fs))) ≡ of_one test Fs
of_one-is A test object_test e [] i = refl
of_one-is A test object_test e (F ∷ []) i = e F i.0
of_one-is A test object_test e (F ∷ G ∷ Fs) i = refl

of_two-is : (A : ArityTable) (test : Formula → Formula → Bool) (object_test : Object → Object → Bool) → ((F G : Formula) → IsFormula A F → IsFormula A G → object_test (formula_object F) (formula_object G) ≡ test F G) → (Fs : List Formula) → Each (IsFormula A) Fs → (has_members 2 (formulas_object Fs) && object_test (car (formulas_object Fs)) (second_of (formulas_object Fs))) ≡ of_two test Fs
of_two-is A test object_test e [] i = refl
of_two-is A test object_test e (F ∷ []) i = refl
of_two-is A test object_test e (F ∷ G ∷ []) i = e F G i.0 i.1.0
of_two-is A test object_test e (F ∷ G ∷ H ∷ Fs) i = refl

module _ (ax th : Object) (A : ArityTable) (P : Profile) where
  row_holds-is : (m : Method) (F : Formula) (Fs : List Formula) (x : Object) → IsFormula A F → Each (IsFormula A) Fs → rule_holds ax th A P (Some m) (formula_object F) (formulas_object Fs) x ≡ rows ax th A P m F Fs x
  row_holds-is Axiom F Fs x i j = ap (λ b. same_object x NIL && b) (of_none-is (is_member (formula_object F) ax) Fs)
  row_holds-is Theorem F Fs x i j = ap (λ b. same_object x NIL && b) (of_none-is (is_member (formula_object F) th) Fs)
  row_holds-is PropositionalSchema F Fs x i j = ap (λ b. same_object x NIL && b) (ap (λ t. has_members 0 (formulas_object Fs) && t) (object_is_schema-exact F (formula_readable A F i)) ∙ of_none-is _ Fs)
  row_holds-is FunctionalEquality F Fs x i j = ap (λ b. same_object x NIL && b) (ap (λ t. has_members 0 (formulas_object Fs) && t) (object_is_functional_equality-exact A F i) ∙ of_none-is _ Fs)
  row_holds-is BetaReduction F Fs x i j = ap (λ b. same_object x NIL && b) (ap (λ t. has_members 0 (formulas_object Fs) && t) (object_is_beta-exact F (formula_readable A F i)) ∙ of_none-is _ Fs)
  row_holds-is BaseEval F Fs x i j = ap (λ b. same_object x NIL && b) (ap (λ t. has_members 0 (formulas_object Fs) && t) (object_is_base_eval-exact P F (formula_readable A F i)) ∙ of_none-is _ Fs)
  row_holds-is Expansion F Fs x i j = ap (λ b. same_object x NIL && b) (of_one-is A (is_expansion F) (object_is_expansion (formula_object F)) (λ G k. object_is_expansion-exact F G (formula_readable A F i) (formula_readable A G k)) Fs j)
  row_holds-is Contraction F Fs x i j = ap (λ b. same_object x NIL && b) (of_one-is A (is_contraction F) (object_is_contraction (formula_object F)) (λ G k. object_is_contraction-exact F G (formula_readable A F i) (formula_readable A G k)) Fs j)
  row_holds-is Associativity F Fs x i j = ap (λ b. same_object x NIL && b) (of_one-is A (is_associativity F) (object_is_associativity (formula_object F)) (λ G k. object_is_associativity-exact F G (formula_readable A F i) (formula_readable A G k)) Fs j)
  row_holds-is Cut F Fs x i j = ap (λ b. same_object x NIL && b) (of_two-is A (is_cut F) (object_is_cut (formula_object F)) (λ G H k l. object_is_cut-exact F G H (formula_readable A F i) (formula_readable A G k) (formula_readable A H l)) Fs j)
  row_holds-is Instantiation F Fs x i j = of_one-is A (λ G. is_instance A F G (substitution_of x)) (λ g. object_is_instance A (formula_object F) g x) (λ G k. object_is_instance-exact A F G i k x) Fs j
  row_holds-is Induction F Fs x i j = object_is_induction-exact A F Fs x i j

  -- the rule on objects is the table of methods
  pub rule_holds-is : (m : Method) (F : Formula) (Fs : List Formula) (x : Object) → IsFormula A F → Each (IsFormula A) Fs → rule_holds ax th A P (Some m) (formula_object F) (formulas_object Fs) x ≡ follows ax th A P m F Fs x
  rule_holds-is m F Fs x i j = row_holds-is m F Fs x i j ∙ sym (follows-rows ax th A P m F Fs x)
