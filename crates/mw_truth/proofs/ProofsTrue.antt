-- A proof from true axioms and theorems has a true conclusion: by the proof's parts, each method keeping truth.
use Rattle.std.proofs.Common.{List}
use Rattle.mw_model.specs.Terms.Object.{Object}
use Rattle.mw_model.specs.Terms.Term.{Formula}
use Rattle.mw_model.specs.Values.Definition.{Definitions, arity_table, IsWellMade}
use Rattle.mw_model.specs.Values.Value.{IsTotal}
use Rattle.mw_model.specs.Values.Truth.{Each}
use Rattle.mw_model.specs.Proofs.Proof.{Method, Axiom, Theorem, PropositionalSchema, FunctionalEquality, BetaReduction, BaseEval, Expansion, Contraction, Associativity, Cut, Instantiation, Induction, by_induction, Proves, ProveEach, proof, no_proofs, more_proofs}
use Rattle.mw_model.specs.BuiltIns.BuiltIn.{built_in}
use Rattle.mw_model.specs.Events.Theory.{BeginsWith, AreTrueFormulas}
use Rattle.mw_truth.specs.Methods.{IsTrueFormula, Needs, KeepsTruth, InductionDescends}
use Rattle.mw_truth.proofs.OrdinalFunctions.{orders}
use Rattle.mw_truth.proofs.MethodsTrue.{axiom_keeps, theorem_keeps, schema_keeps, equality_keeps, beta_keeps, base_keeps, expansion_keeps, contraction_keeps, associativity_keeps, cut_keeps, instantiation_keeps, induction_descends, induction_concludes}

pub induction_passes : InductionDescends
induction_passes D made total begun F m cs i hs = induction_descends D total (orders D.profile D.blocks made begun) F m cs i hs

pub induction_keeps : KeepsTruth Induction
induction_keeps D made total axioms theorems begun F Fs x (by_induction G m cs j) i hs = induction_concludes D total (orders D.profile D.blocks made begun) G m cs j hs

method_keeps : (m : Method) → KeepsTruth m
method_keeps Axiom = axiom_keeps
method_keeps Theorem = theorem_keeps
method_keeps PropositionalSchema = schema_keeps
method_keeps FunctionalEquality = equality_keeps
method_keeps BetaReduction = beta_keeps
method_keeps BaseEval = base_keeps
method_keeps Expansion = expansion_keeps
method_keeps Contraction = contraction_keeps
method_keeps Associativity = associativity_keeps
method_keeps Cut = cut_keeps
method_keeps Instantiation = instantiation_keeps
method_keeps Induction = induction_keeps

module _ (D : Definitions) (made : IsWellMade D) (total : IsTotal D) (begun : BeginsWith (built_in D.profile) D.blocks) (axioms theorems : Object) (axioms_true : AreTrueFormulas D axioms) (theorems_true : AreTrueFormulas D theorems) where
  needs : (m : Method) → Needs m D axioms theorems
  needs Axiom = axioms_true
  needs Theorem = theorems_true
  needs PropositionalSchema = tt
  needs FunctionalEquality = tt
  needs BetaReduction = tt
  needs BaseEval = tt
  needs Expansion = tt
  needs Contraction = tt
  needs Associativity = tt
  needs Cut = tt
  needs Instantiation = tt
  needs Induction = begun

  mutual
    pub proved_true : (p : Object) (F : Formula) → Proves axioms theorems (arity_table D) D.profile p F → IsTrueFormula D F
    proved_true p F (proof q ps x m G Fs members i subproofs follows) =
        (i, method_keeps m D made total axioms theorems (needs m) G Fs x follows i (each_proved ps Fs subproofs))

    each_proved : (ps : Object) (Fs : List Formula) → ProveEach axioms theorems (arity_table D) D.profile ps Fs → Each (IsTrueFormula D) Fs
    each_proved ps Fs no_proofs = tt
    each_proved ps Fs (more_proofs p qs F Gs h hs) = (proved_true p F h, each_proved qs Gs hs)
