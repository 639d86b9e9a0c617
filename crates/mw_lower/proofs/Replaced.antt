-- A step by REPLACE holds exactly where functional equality proves its conclusion or else that a premise does not hold.
use Rattle.std.proofs.Common.{◌≡◌, true, false, ◌&&◌, eqb, List, [], ◌∷◌, refl, sym, ap, ◌∙◌, subst}
use Rattle.std.proofs.lemmas.Bool.{true≢false, and_from}
use Rattle.mw_model.specs.Terms.Object.{Object, symbol, same_name, same_object, NIL, car}
use Rattle.mw_model.specs.Terms.Term.{Term, Terms, Variable, Constant, If, Call, Lambda, NoTerms, More, Formula, Equal, Not, Or, formula_object, count, is_function_name, is_formula, IsFormula, ArityTable}
use Rattle.mw_model.specs.Terms.Same.{same_formula, same_formulas}
use Rattle.mw_model.specs.Values.Truth.{Each}
use Rattle.mw_model.specs.Proofs.Proof.{FunctionalEquality, unless_equal, three_terms, no_proofs, ProveEach}
use Rattle.mw_model.specs.Proofs.Judgment.{last_disjunct, is_functional_equality}
use Rattle.mw_model.specs.Laws.Rules.{object_is_functional_equality}
use Rattle.mw_model.proofs.SameTerms.{same_formula-refl}
use Rattle.mw_model.proofs.Follows.{row_is}
use Rattle.mw_model.proofs.Judging.{goods_judge}
use Rattle.mw_model.proofs.EqualityExact.{object_is_functional_equality-exact}
use Rattle.mw_commands.specs.Commands.Derivation.{equalities}
use Rattle.mw_commands.specs.Commands.DerivationTest.{is_replaced}
use Rattle.mw_proof.specs.Judging.{Basis}
use Rattle.mw_lower.specs.declared.rules.TheConstants.{FUNCTIONAL}
use Rattle.mw_lower.specs.Rules.{rule_made}
use Rattle.mw_lower.specs.Proofs.{IsProof}
use Rattle.mw_lower.specs.Unless.{unless_all}
use Rattle.mw_lower.proofs.ByMethods.{step, functional_of}
use Rattle.mw_lower.proofs.RulesProve.{functional_made}

-- the premises are those equalities
same_unless : (l r : Term) (Fs : List Formula) (ts us : Terms) → same_formula (unless_all Fs (Equal l r)) (unless_equal ts us (Equal l r)) ≡ same_formulas Fs (equalities ts us)
same_unless l r [] NoTerms us = same_formula-refl (Equal l r)
same_unless l r [] (More a ts) NoTerms = same_formula-refl (Equal l r)
same_unless l r [] (More a ts) (More b us) = refl
same_unless l r (G ∷ Gs) NoTerms us = refl
same_unless l r (G ∷ Gs) (More a ts) NoTerms = refl
same_unless l r (G ∷ Gs) (More a ts) (More b us) = ap (λ t. same_formula G (Equal a b) && t) (same_unless l r Gs ts us)

last_is : (l r : Term) (Fs : List Formula) → last_disjunct (unless_all Fs (Equal l r)) ≡ Equal l r
last_is l r [] = refl
last_is l r (G ∷ Gs) = last_is l r Gs

test_is : (l r : Term) (Fs : List Formula) → is_functional_equality (unless_all Fs (Equal l r)) (Equal l r) ≡ is_replaced (Equal l r) Fs
test_is (Call f ts) (Call g us) Fs = ap (λ t. is_function_name f && (same_name f g && (eqb (count ts) (count us) && t))) (same_unless (Call f ts) (Call g us) Fs ts us)
test_is (If a b c) (If d e f) Fs = same_unless (If a b c) (If d e f) Fs (three_terms a b c) (three_terms d e f)
test_is (Call f ts) (Variable y) Fs = refl
test_is (Call f ts) (Constant y) Fs = refl
test_is (Call f ts) (If d e g) Fs = refl
test_is (Call f ts) (Lambda ys d us) Fs = refl
test_is (If a b c) (Variable y) Fs = refl
test_is (If a b c) (Constant y) Fs = refl
test_is (If a b c) (Call g us) Fs = refl
test_is (If a b c) (Lambda ys d us) Fs = refl
test_is (Variable x) r Fs = refl
test_is (Constant x) r Fs = refl
test_is (Lambda xs d ts) r Fs = refl

unless_formed : (A : ArityTable) (F : Formula) (Fs : List Formula) → IsFormula A F → Each (IsFormula A) Fs → IsFormula A (unless_all Fs F)
unless_formed A F [] i j = i
unless_formed A F (G ∷ Gs) i j = and_from (is_formula A G) (is_formula A (unless_all Gs F)) j.0 (unless_formed A F Gs i j.1)

-- an equation is told by its head
pub not_headed : (F : Formula) (Fs : List Formula) (c : Object) → c ≡ formula_object F → same_object (car c) (symbol "PEQUAL*") ≡ false → is_replaced F Fs ≡ false
not_headed (Equal l r) Fs c e h = absurd (true≢false (sym (ap (λ x. same_object (car x) (symbol "PEQUAL*")) e) ∙ h))
not_headed (Not F) Fs c e h = refl
not_headed (Or F G) Fs c e h = refl

module _ (b : Basis) (Fs : List Formula) (ps : Object) (proofs : ProveEach b.axioms b.theorems b.table b.profile ps Fs) where
  formulas : Each (IsFormula b.table) Fs
  formulas = (goods_judge b.axioms b.theorems b.table b.profile ps Fs proofs).0

  pub test_exact : (F : Formula) (c whole : Object) → IsFormula b.table F → c ≡ formula_object F → same_object (car c) (symbol "PEQUAL*") ≡ true → whole ≡ formula_object (unless_all Fs F) → object_is_functional_equality whole ≡ is_replaced F Fs
  test_exact (Equal l r) c whole i d h e =
      ap object_is_functional_equality e
      ∙ (object_is_functional_equality-exact b.table (unless_all Fs (Equal l r)) (unless_formed b.table (Equal l r) Fs i formulas)
      ∙ (ap (is_functional_equality (unless_all Fs (Equal l r))) (last_is l r Fs) ∙ test_is l r Fs))
  test_exact (Not F) c whole i d h e = absurd (true≢false (sym h ∙ ap (λ x. same_object (car x) (symbol "PEQUAL*")) d))
  test_exact (Or F G) c whole i d h e = absurd (true≢false (sym h ∙ ap (λ x. same_object (car x) (symbol "PEQUAL*")) d))

  -- the step by functional equality
  pub functional_proves : (F : Formula) (whole p : Object) → IsFormula b.table F → p ≡ rule_made FUNCTIONAL (whole ∷ []) → whole ≡ formula_object (unless_all Fs F) → object_is_functional_equality whole ≡ true → IsProof b p (unless_all Fs F)
  functional_proves F whole p i made e h =
      let G = unless_all Fs F in
      let formed = unless_formed b.table F Fs i formulas in
      let holds : is_functional_equality G (last_disjunct G) ≡ true = sym (object_is_functional_equality-exact b.table G formed) ∙ (ap object_is_functional_equality (sym e) ∙ h) in
      subst (λ z. IsProof b z G) (sym (made ∙ (functional_made whole ∙ ap functional_of e))) (step b FunctionalEquality G [] NIL NIL (row_is b.axioms b.theorems b.table b.profile FunctionalEquality G [] NIL holds) formed no_proofs)
