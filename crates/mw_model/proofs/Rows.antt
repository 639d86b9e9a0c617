-- The table of methods as a test, by how many subproofs a method takes.
use Rattle.std.proofs.Common.{◌≡◌, Bool, false, ◌&&◌, List, [], ◌∷◌, refl}
use Rattle.std.proofs.lemmas.Bool.{and_right}
use Rattle.mw_model.specs.Terms.Object.{Object, same_object, NIL, is_member}
use Rattle.mw_model.specs.Terms.Term.{Formula, ArityTable, formula_object}
use Rattle.mw_model.specs.Terms.Substitution.{substitution_of}
use Rattle.mw_model.specs.Values.Primitive.{Profile}
use Rattle.mw_model.specs.Proofs.Proof.{Method, Axiom, Theorem, PropositionalSchema, FunctionalEquality, BetaReduction, BaseEval, Expansion, Contraction, Associativity, Cut, Instantiation, Induction}
use Rattle.mw_model.specs.Proofs.Judgment.{is_schema, is_functional_equality, last_disjunct, is_beta, is_base_eval, is_expansion, is_contraction, is_associativity, is_cut, is_instance, is_induction, follows}

-- for no subproof, one, two
abbrev pub of_none : Bool → List Formula → Bool
of_none test [] = test
of_none test (F ∷ Fs) = false

abbrev pub of_one : (Formula → Bool) → List Formula → Bool
of_one test (F ∷ []) = test F
of_one test _ = false

abbrev pub of_two : (Formula → Formula → Bool) → List Formula → Bool
of_two test (F ∷ G ∷ []) = test F G
of_two test _ = false

abbrev pub rows : Object → Object → ArityTable → Profile → Method → Formula → List Formula → Object → Bool
rows axioms theorems A P Axiom F Fs x = same_object x NIL && of_none (is_member (formula_object F) axioms) Fs
rows axioms theorems A P Theorem F Fs x = same_object x NIL && of_none (is_member (formula_object F) theorems) Fs
rows axioms theorems A P PropositionalSchema F Fs x = same_object x NIL && of_none (is_schema F) Fs
rows axioms theorems A P FunctionalEquality F Fs x = same_object x NIL && of_none (is_functional_equality F (last_disjunct F)) Fs
rows axioms theorems A P BetaReduction F Fs x = same_object x NIL && of_none (is_beta F) Fs
rows axioms theorems A P BaseEval F Fs x = same_object x NIL && of_none (is_base_eval P F) Fs
rows axioms theorems A P Expansion F Fs x = same_object x NIL && of_one (is_expansion F) Fs
rows axioms theorems A P Contraction F Fs x = same_object x NIL && of_one (is_contraction F) Fs
rows axioms theorems A P Associativity F Fs x = same_object x NIL && of_one (is_associativity F) Fs
rows axioms theorems A P Cut F Fs x = same_object x NIL && of_two (is_cut F) Fs
rows axioms theorems A P Instantiation F Fs x = of_one (λ G. is_instance A F G (substitution_of x)) Fs
rows axioms theorems A P Induction F Fs x = is_induction A F Fs x

module _ (axioms theorems : Object) (A : ArityTable) (P : Profile) where
  pub follows-rows : (m : Method) (F : Formula) (Fs : List Formula) (x : Object) → follows axioms theorems A P m F Fs x ≡ rows axioms theorems A P m F Fs x
  follows-rows Axiom F [] x = refl
  follows-rows Axiom F (G ∷ Fs) x = refl
  follows-rows Theorem F [] x = refl
  follows-rows Theorem F (G ∷ Fs) x = refl
  follows-rows PropositionalSchema F [] x = refl
  follows-rows PropositionalSchema F (G ∷ Fs) x = refl
  follows-rows FunctionalEquality F [] x = refl
  follows-rows FunctionalEquality F (G ∷ Fs) x = refl
  follows-rows BetaReduction F [] x = refl
  follows-rows BetaReduction F (G ∷ Fs) x = refl
  follows-rows BaseEval F [] x = refl
  follows-rows BaseEval F (G ∷ Fs) x = refl
  follows-rows Expansion F [] x = refl
  follows-rows Expansion F (G ∷ []) x = refl
  follows-rows Expansion F (G ∷ H ∷ Fs) x = refl
  follows-rows Contraction F [] x = refl
  follows-rows Contraction F (G ∷ []) x = refl
  follows-rows Contraction F (G ∷ H ∷ Fs) x = refl
  follows-rows Associativity F [] x = refl
  follows-rows Associativity F (G ∷ []) x = refl
  follows-rows Associativity F (G ∷ H ∷ Fs) x = refl
  follows-rows Cut F [] x = refl
  follows-rows Cut F (G ∷ []) x = refl
  follows-rows Cut F (G ∷ H ∷ []) x = refl
  follows-rows Cut F (G ∷ H ∷ K ∷ Fs) x = refl
  follows-rows Instantiation F [] x = and_right (same_object x NIL) false refl
  follows-rows Instantiation F (G ∷ []) x = refl
  follows-rows Instantiation F (G ∷ H ∷ Fs) x = and_right (same_object x NIL) false refl
  follows-rows Induction F Fs x = refl
