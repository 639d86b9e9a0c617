-- Each method of proof keeps truth.
use Rattle.std.proofs.Common.{◌≡◌, true, List, [], ◌∷◌, map, subst}
use Rattle.std.proofs.lemmas.Bool.{and_parts}
use Rattle.mw_model.specs.Terms.Object.{Object, Member, named, T}
use Rattle.mw_model.specs.Terms.Term.{Term, Formula, Constant, Call, If, Lambda, Equal, More, NoTerms, formula_object, is_term, IsTerm, IsFormula}
use Rattle.mw_model.specs.Terms.Substitution.{substitute, substitute_formula, actuals_for}
use Rattle.mw_model.specs.Values.Definition.{Definitions, arity_table}
use Rattle.mw_model.specs.Values.Value.{IsTotal, block_calls}
use Rattle.mw_model.specs.Values.Truth.{Each, IsTrueIn}
use Rattle.mw_model.specs.Events.Obligation.{ordinal_formula}
use Rattle.mw_model.specs.Proofs.Induction.{Case, step_premise, fall_premises, premises, are_cases}
use Rattle.mw_model.specs.Proofs.Proof.{Axiom, Theorem, PropositionalSchema, FunctionalEquality, BetaReduction, BaseEval, Expansion, Contraction, Associativity, Cut, Instantiation, three_terms, by_axiom, by_theorem, by_schema, by_equality, by_if_equality, by_beta, by_base, by_base_if, by_expansion, by_contraction, by_associativity, by_cut, by_instantiation}
use Rattle.mw_model.specs.Events.Theory.{AreTrueFormulas}
use Rattle.mw_model.specs.Laws.Descent.{OfFormula, goal}
use Rattle.mw_model.proofs.Formed.{formed, is_term-from}
use Rattle.mw_model.proofs.Read.{formula_object-one}
use Rattle.mw_model.proofs.Depth.{block_calls-det}
use Rattle.mw_descent.proofs.Descents.{Passes}
use Rattle.mw_truth.specs.Methods.{IsTrueFormula, KeepsTruth}
use Rattle.mw_truth.proofs.Having.{Orders, stable, each_right}
use Rattle.mw_truth.proofs.TrueSubstituted.{true_substituted, induced}
use Rattle.mw_truth.proofs.Equations.{last_formula, base_true, base_if-true, calls_equal, ifs_equal, beta_true}
use Rattle.mw_truth.proofs.InductionTrue.{induction_passes, induction_true}

-- a member of a list of true formulas, read in its one way
pub member_true : (D : Definitions) (list : Object) → AreTrueFormulas D list → (F : Formula) → IsFormula (arity_table D) F → Member (formula_object F) list → IsTrueIn D F
member_true D list all F i q =
    let g = all (formula_object F) q in
    subst (IsTrueIn D) (formula_object-one (arity_table D) (arity_table D) g.0 F g.2 i g.1) g.3

pub axiom_keeps : KeepsTruth Axiom
axiom_keeps D made total axioms theorems need F Fs x (by_axiom G q) i hs = member_true D axioms need F i q

pub theorem_keeps : KeepsTruth Theorem
theorem_keeps D made total axioms theorems need F Fs x (by_theorem G q) i hs = member_true D theorems need F i q

pub schema_keeps : KeepsTruth PropositionalSchema
schema_keeps D made total axioms theorems need F Fs x (by_schema G) i hs = λ e k l. k l

pub equality_keeps : KeepsTruth FunctionalEquality
equality_keeps D made total axioms theorems need F Fs x (by_equality f ts us g l) i hs =
    let A = arity_table D in
    let p = and_parts (is_term A (Call f ts)) (is_term A (Call f us)) (last_formula A ts us (Equal (Call f ts) (Call f us)) i) in
    λ e. calls_equal D.profile (block_calls D.profile D.blocks) (block_calls-det D.profile D.blocks) A total.some e f ts us p.0 l
equality_keeps D made total axioms theorems need F Fs x (by_if_equality a b c a' b' c') i hs =
    let A = arity_table D in
    let p = and_parts (is_term A (If a b c)) (is_term A (If a' b' c')) (last_formula A (three_terms a b c) (three_terms a' b' c') (Equal (If a b c) (If a' b' c')) i) in
    λ e. ifs_equal D.profile (block_calls D.profile D.blocks) (block_calls-det D.profile D.blocks) A total.some e a b c a' b' c' p.0

pub beta_keeps : KeepsTruth BetaReduction
beta_keeps D made total axioms theorems need F Fs x (by_beta xs b ts) i hs =
    let A = arity_table D in
    let p = and_parts (is_term A (Lambda xs b ts)) (is_term A (substitute (actuals_for xs ts) b)) i in
    λ e. beta_true D.profile (block_calls D.profile D.blocks) (block_calls-det D.profile D.blocks) A total.some e xs b ts p.0

pub base_keeps : KeepsTruth BaseEval
base_keeps D made total axioms theorems need F Fs x (by_base f p cs q) i hs = λ e. base_true D.profile (block_calls D.profile D.blocks) e f p cs q
base_keeps D made total axioms theorems need F Fs x (by_base_if a b c) i hs = λ e. base_if-true D.profile (block_calls D.profile D.blocks) e a b c

pub expansion_keeps : KeepsTruth Expansion
expansion_keeps D made total axioms theorems need F Fs x (by_expansion G H) i hs = λ e k l. l (hs.0.1 e)

pub contraction_keeps : KeepsTruth Contraction
contraction_keeps D made total axioms theorems need F Fs x (by_contraction G) i hs = λ e. stable D.profile (block_calls D.profile D.blocks) e G (λ n. hs.0.1 e n n)

pub associativity_keeps : KeepsTruth Associativity
associativity_keeps D made total axioms theorems need F Fs x (by_associativity G H K) i hs = λ e k l. k (λ ng nh. hs.0.1 e ng (λ hk. hk nh l))

pub cut_keeps : KeepsTruth Cut
cut_keeps D made total axioms theorems need F Fs x (by_cut G H K) i hs = λ e nh nk. hs.1.0.1 e (λ ng. hs.0.1 e ng nh) nk

pub instantiation_keeps : KeepsTruth Instantiation
instantiation_keeps D made total axioms theorems need F Fs x (by_instantiation G s j) i hs =
    let C = block_calls D.profile D.blocks in
    λ e. stable D.profile C e (substitute_formula s G) (λ n.
    induced D.profile C (arity_table D) total.some e s j (λ e' ind.
    n (true_substituted D.profile C (block_calls-det D.profile D.blocks) e e' s ind G (hs.0.1 e'))))

-- the measure is a term, since the premise that it is an ordinal is a formula
measure_term : (D : Definitions) (F : Formula) (m : Term) (cs : List Case) → Each (IsTrueFormula D) (premises F m cs) → IsTerm (arity_table D) m
measure_term D F m cs hs =
    let A = arity_table D in
    let call = Call (named "ORDP") (More m NoTerms) in
    let p = (each_right (IsTrueFormula D) (map (step_premise F) cs) (ordinal_formula m ∷ fall_premises m cs) hs.1).0.0 in
    is_term-from A m (formed A call (and_parts (is_term A call) (is_term A (Constant T)) p).0).2.0

each_true : (D : Definitions) (Fs : List Formula) → Each (IsTrueFormula D) Fs → Each (IsTrueIn D) Fs
each_true D [] hs = tt
each_true D (F ∷ Fs) hs = (hs.0.1, each_true D Fs hs.1)

module _ (D : Definitions) (total : IsTotal D) (o : Orders (block_calls D.profile D.blocks)) (F : Formula) (m : Term) (cs : List Case) (i : are_cases (arity_table D) cs ≡ true) (hs : Each (IsTrueFormula D) (premises F m cs)) where
  pub induction_descends : Passes (goal (OfFormula D F m))
  induction_descends =
      induction_passes D.profile (block_calls D.profile D.blocks) (block_calls-det D.profile D.blocks) (arity_table D) total.some o F m (measure_term D F m cs hs) cs i (each_true D (premises F m cs) hs)

  pub induction_concludes : IsTrueIn D F
  induction_concludes =
      induction_true D.profile (block_calls D.profile D.blocks) (block_calls-det D.profile D.blocks) (arity_table D) total.some o F m (measure_term D F m cs hs) cs i (each_true D (premises F m cs) hs)
