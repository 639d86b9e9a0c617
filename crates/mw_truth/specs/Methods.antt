-- What it means that a method of proof keeps truth.
use Rattle.std.specs.Prelude.{◌≡◌, true, List}
use Rattle.mw_model.specs.Terms.Object.{Object}
use Rattle.mw_model.specs.Terms.Term.{Term, Formula, IsFormula}
use Rattle.mw_model.specs.Values.Definition.{Definitions, arity_table, IsWellMade}
use Rattle.mw_model.specs.Values.Value.{IsTotal}
use Rattle.mw_model.specs.Values.Truth.{Each, IsTrueIn}
use Rattle.mw_model.specs.Proofs.Induction.{Case, premises, are_cases}
use Rattle.mw_model.specs.Proofs.Proof.{Method, Axiom, Theorem, PropositionalSchema, FunctionalEquality, BetaReduction, BaseEval, Expansion, Contraction, Associativity, Cut, Instantiation, Induction, Follows, Proves}
use Rattle.mw_model.specs.BuiltIns.BuiltIn.{built_in}
use Rattle.mw_model.specs.Events.Theory.{BeginsWith, AreTrueFormulas}
use Rattle.mw_model.specs.Laws.Descent.{OfFormula, goal}
use Rattle.mw_descent.specs.Descending.{Passes}

-- a formula of the definitions, and true there
abbrev pub IsTrueFormula : Definitions → Formula → Type 0
IsTrueFormula D F = IsFormula (arity_table D) F × IsTrueIn D F

-- What a method needs besides: true axioms, true theorems, or the built-in functions on ordinals.
abbrev pub Needs : Method → Definitions → (axioms theorems : Object) → Type 0
Needs Axiom D axioms theorems = AreTrueFormulas D axioms
Needs Theorem D axioms theorems = AreTrueFormulas D theorems
Needs PropositionalSchema D axioms theorems = Unit {0}
Needs FunctionalEquality D axioms theorems = Unit {0}
Needs BetaReduction D axioms theorems = Unit {0}
Needs BaseEval D axioms theorems = Unit {0}
Needs Expansion D axioms theorems = Unit {0}
Needs Contraction D axioms theorems = Unit {0}
Needs Associativity D axioms theorems = Unit {0}
Needs Cut D axioms theorems = Unit {0}
Needs Instantiation D axioms theorems = Unit {0}
Needs Induction D axioms theorems = BeginsWith (built_in D.profile) D.blocks

-- From true conclusions of the subproofs the method comes to a true conclusion.
abbrev pub KeepsTruth : Method → Type 0
KeepsTruth m =
    (D : Definitions) → IsWellMade D → IsTotal D → (axioms theorems : Object) → Needs m D axioms theorems → (F : Formula) (Fs : List Formula) (extras : Object) → Follows axioms theorems (arity_table D) D.profile m F Fs extras → IsFormula (arity_table D) F → Each (IsTrueFormula D) Fs → IsTrueIn D F

-- From true premises the goal of an induction passes from all ordinals below to an ordinal.
abbrev pub InductionDescends : Type 0
InductionDescends =
    (D : Definitions) → IsWellMade D → IsTotal D → BeginsWith (built_in D.profile) D.blocks → (F : Formula) (m : Term) (cs : List Case) → are_cases (arity_table D) cs ≡ true → Each (IsTrueFormula D) (premises F m cs) → Passes (goal (OfFormula D F m))

-- From true axioms and theorems a proof comes to a true conclusion.
abbrev pub ProofsKeepTruth : Type 0
ProofsKeepTruth =
    (D : Definitions) → IsWellMade D → IsTotal D → BeginsWith (built_in D.profile) D.blocks → (axioms theorems : Object) → AreTrueFormulas D axioms → AreTrueFormulas D theorems → (p : Object) (F : Formula) → Proves axioms theorems (arity_table D) D.profile p F → IsTrueFormula D F
