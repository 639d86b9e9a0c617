-- What the reference checker, provability and a claim say, and which theories events reach.
use Rattle.std.specs.Prelude.{◌≡◌, ◌≢◌, ◌↔◌, ℕ, List, [], ◌∷◌, Some, is_some}
use Rattle.mw_model.specs.Terms.Object.{Name, Object, named, NIL, T, second_of, truth_of, Member}
use Rattle.mw_model.specs.Terms.Term.{Term, Constant, Call, Formula, Equal, formula_object, table_object, IsFormula}
use Rattle.mw_model.specs.Values.Primitive.{One}
use Rattle.mw_model.specs.Values.Definition.{Definitions, arity_table, IsWellMade}
use Rattle.mw_model.specs.Values.Value.{Environment, IsValue}
use Rattle.mw_model.specs.Values.Truth.{IsTrueIn}
use Rattle.mw_model.specs.Proofs.Proof.{constants, Proves}
use Rattle.mw_model.specs.Proofs.Judgment.{judge}
use Rattle.mw_model.specs.BuiltIns.BuiltIn.{built_in}
use Rattle.mw_model.specs.Events.Evaluation.{Value, evaluate}
use Rattle.mw_model.specs.Events.Theory.{Theory, BeginsWith, initial, IsSound, IsClaimed, claim}
use Rattle.mw_model.specs.Events.Fate.{after}
use Rattle.mw_model.specs.Reports.Keeping.{EventKeeps, EachKeeps}
use Rattle.mw_truth.specs.Reached.{JudgesTruly}

-- (f 'p 'axioms 'theorems 'table), where the table is that of the definitions
abbrev pub checker_call : Name → Definitions → (p axioms theorems : Object) → Term
checker_call f D p axioms theorems = Call f (constants (p ∷ axioms ∷ theorems ∷ table_object (arity_table D) ∷ []))

-- its value is other than NIL
abbrev pub SaysYes : Name → Definitions → Environment → (p axioms theorems : Object) → Type 0
SaysYes f D e p axioms theorems = (v : Object) × (v ≢ NIL) × IsValue D e (checker_call f D p axioms theorems) v

-- well-made definitions that begin with the built-in ones of their profile
abbrev pub BeginsBuiltIn : Definitions → Type 0
BeginsBuiltIn D = IsWellMade D × BeginsWith (built_in D.profile) D.blocks

abbrev pub IsProof : Definitions → (axioms theorems p : Object) → Type 0
IsProof D axioms theorems p = (F : Formula) × Proves axioms theorems (arity_table D) D.profile p F

-- some proof has the second member c
abbrev pub IsProved : Definitions → (axioms theorems c : Object) → Type 0
IsProved D axioms theorems c = (p : Object) × IsProof D axioms theorems p × (second_of p ≡ c)

-- LOGIC.PROOFP says yes exactly to proofs
abbrev pub ReferenceChecker : Type 0
ReferenceChecker =
    (D : Definitions) → BeginsBuiltIn D → (e : Environment) (axioms theorems p : Object) → SaysYes (named "LOGIC.PROOFP") D e p axioms theorems ↔ IsProof D axioms theorems p

-- and its value is T or NIL
abbrev pub ReferenceValue : Type 0
ReferenceValue =
    (D : Definitions) → BeginsBuiltIn D → (e : Environment) (axioms theorems p : Object) → IsValue D e (checker_call (named "LOGIC.PROOFP") D p axioms theorems) (truth_of (is_some (judge axioms theorems (arity_table D) D.profile p)))

-- LOGIC.PROVABLEP does not fail to say yes exactly where not no object is such a proof
abbrev pub Provability : Type 0
Provability =
    (D : Definitions) → BeginsBuiltIn D → (e : Environment) (axioms theorems c : Object) → ((SaysYes (named "LOGIC.PROVABLEP") D e c axioms theorems → ⊥) → ⊥) ↔ ((IsProved D axioms theorems c → ⊥) → ⊥)

-- LOGIC.PROVABLEP says yes only to what has a proof
abbrev pub ProvableIsProved : Type 0
ProvableIsProved = (D : Definitions) → BeginsBuiltIn D → (e : Environment) (axioms theorems c : Object) → SaysYes (named "LOGIC.PROVABLEP") D e c axioms theorems → IsProved D axioms theorems c

-- and in a sound theory what it says yes to is true
abbrev pub ProvableIsTrue : Type 0
ProvableIsTrue =
    (t : Theory) → IsSound t → (e : Environment) (F : Formula) → IsFormula (arity_table t.definitions) F → SaysYes (named "LOGIC.PROVABLEP") t.definitions e (formula_object F) t.axioms t.theorems → IsTrueIn t.definitions F

-- Where the claim of f and the conclusions of proofs are true, and f says yes to p, the formula that the second member
-- of p stands for is true.
abbrev pub Claims : Type 0
Claims =
    (D : Definitions) → BeginsBuiltIn D → (axioms theorems : Object) → ((q : Object) (G : Formula) → Proves axioms theorems (arity_table D) D.profile q G → IsTrueIn D G) → (f : Name) (e : Environment) (p : Object) → IsTrueIn D (claim f) → SaysYes f D e p axioms theorems → (F : Formula) → IsFormula (arity_table D) F → second_of p ≡ formula_object F → IsTrueIn D F

-- In the theory, what a run of f says yes to has a true conclusion.
abbrev pub SaysTruly : Theory → Name → Type 0
SaysTruly t f =
    (p : Object) (N : ℕ) (v : Object) (left : ℕ) → v ≢ NIL → evaluate t.definitions N [] (checker_call f t.definitions p t.axioms t.theorems) ≡ Value v left → (F : Formula) → IsFormula (arity_table t.definitions) F → second_of p ≡ formula_object F → IsTrueIn t.definitions F

-- A sound theory's functions with a true claim do, and so those with a claim among the theorems.
abbrev pub TrueClaimsSayTruly : Type 0
TrueClaimsSayTruly = (t : Theory) → IsSound t → (f : Name) → IsTrueIn t.definitions (claim f) → SaysTruly t f

abbrev pub RunsSayTruly : Type 0
RunsSayTruly = (t : Theory) → IsSound t → (f : Name) → IsClaimed t (Some f) → SaysTruly t f

-- Each event keeps any sound theory sound, and accepts only what is true, whichever checker the theory has.
abbrev pub EventsKeepAny : Type 0
EventsKeepAny = (t : Theory) (N : ℕ) (e : Object) → IsSound t → EventKeeps t N e

-- A sound theory's checker, also one that was switched to, says yes only where the conclusion is true.
abbrev pub CheckersJudgeTruly : Type 0
CheckersJudgeTruly = (t : Theory) (N : ℕ) → IsSound t → JudgesTruly t N

-- whatever events happen from the initial theory on, with any switches: each of them keeps truth
abbrev pub EventsKeep : Type 0
EventsKeep = (es : List Object) (N : ℕ) → EachKeeps (initial One) N es

-- the theory that they lead to is sound
abbrev pub ReachedIsSound : Type 0
ReachedIsSound = (es : List Object) (N : ℕ) → IsSound (after (initial One) es N)

-- and t = nil is none of its theorems
abbrev pub ReachedIsConsistent : Type 0
ReachedIsConsistent = (es : List Object) (N : ℕ) → Member (formula_object (Equal (Constant T) (Constant NIL))) (after (initial One) es N).theorems → ⊥
