-- A proof by cases, equation by equation.
use Rattle.std.specs.Prelude.{◌≡◌, ℕ, nat_eq, ◌<◌, Bool, true, false, not, cond, List, [], ◌∷◌, ◌++◌, length, map, All, Option, Some, None}
use Rattle.mw_model.specs.Terms.Object.{Object, Pair, NIL, truth_of}
use Rattle.mw_model.specs.Terms.Term.{Formula, Not, Or, formula_object, ArityTable, is_formula}
use Rattle.mw_model.specs.Values.Primitive.{One}
use Rattle.mw_model.specs.Proofs.Proof.{Proves}
use Rattle.mw_model.specs.Values.Truth.{Each}
use Rattle.mw_commands.specs.Commands.Tautology.{Choice, IsTautology, choices, choice_object, first_against, value_by}
use Rattle.mw_heap.specs.Objects.{object_at, IsIn}
use Rattle.indexmap.specs.IndexMap.{IndexMap, get}
use Rattle.mw_taut.specs.declared.table.Table.{Table}
use Rattle.mw_taut.specs.declared.case.Question.{Question}
use Rattle.mw_taut.specs.declared.case.Outcome.{Outcome}
use Rattle.mw_taut.specs.declared.case.Outcome.TheVariants.{Proof, Against}
use Rattle.mw_taut.specs.declared.case.Follow.{Follow}
use Rattle.mw_taut.specs.declared.case.Entered.{Entered}
use Rattle.mw_taut.specs.declared.case.Entered.TheVariants.{Ended, Goes}
use Rattle.mw_taut.specs.declared.rule.TheConstants.{COMMUTED, KEPT_FROM, CARRIED}
use Rattle.mw_taut.specs.Rules.{rule_made}
use Rattle.mw_taut.specs.Nodes.{AreNodes}
use Rattle.mw_taut.specs.Meaning.{literal, IsEquation, AreApart, Over}
use Rattle.mw_taut.specs.Reducing.{ValueAndProof, Form, Fixed, Kept, Changed}

pub record IsTableIn (os : List Object) (t : Table) : Type 0 where
  pub formulas : All (IsIn os) t.formulas.items
  pub equations : All (IsIn os) t.equations.items
  pub nodes : AreNodes (length t.equations.items) 0 t.nodes.items
  pub parts : length t.nodes.items ≡ length t.formulas.items
  pub root : t.root < length t.nodes.items

-- ---- what comes of a case, as an object

pub data Answer : Type 0 where
  Proved : Object → Answer
  Falsified : Object → Answer

-- whether an equation is chosen to be true, if it is chosen
abbrev pub is_true : Option Bool → Bool
is_true None = false
is_true (Some b) = b

-- the choice as a list: false for each equation past those that are chosen
abbrev pub choice_list : List Object → List Bool → Object
choice_list [] bs = NIL
choice_list (e ∷ es) [] = Pair (Pair e (truth_of false)) (choice_list es [])
choice_list (e ∷ es) (b ∷ bs) = Pair (Pair e (truth_of b)) (choice_list es bs)

-- where the value of the formula x is fixed, in the context d
abbrev pub ended : Object → Object → List Object → List Bool → ValueAndProof → Answer
ended d x es bs s = cond s.0 (Proved (rule_made COMMUTED (x ∷ d ∷ s.1 ∷ []))) (Falsified (choice_list es bs))

-- the end of a case, or its context, another formula, and a proof that the formula follows from it
pub data Step : Type 0 where
  End : Answer → Step
  Next : Object → Object → Object → Step

-- where the formula x comes to this
abbrev pub entered : Object → Object → List Object → List Bool → Form → Step
entered d x es bs (Fixed s) = End (ended d x es bs s)
entered d x es bs Kept = Next d x (rule_made KEPT_FROM (d ∷ x ∷ []))
entered d x es bs (Changed s) = Next d s.formula s.from

-- where it follows from y, by q, of what comes of that
abbrev pub carried : Object → Object → Object → Object → Answer → Answer
carried d x y q (Proved p) = Proved (rule_made CARRIED (x ∷ d ∷ y ∷ p ∷ q ∷ []))
carried d x y q (Falsified z) = Falsified z

abbrev pub answer_at : List Object → Outcome → Answer
answer_at os (Proof r) = Proved (object_at os r)
answer_at os (Against r) = Falsified (object_at os r)

abbrev pub step_at : List Object → Entered → Step
step_at os (Ended o) = End (answer_at os o)
step_at os (Goes s) = Next (object_at os s.context) (object_at os s.formula) (object_at os s.from)

abbrev pub IsOutcomeIn : List Object → Outcome → Type 0
IsOutcomeIn os (Proof r) = IsIn os r
IsOutcomeIn os (Against r) = IsIn os r

-- ---- what it means

-- the choices that go on from a first part
abbrev pub going_on : Choice → List Choice → List Choice
going_on c ds = map (λ d. c ++ d) ds

-- the values that were chosen for the first equations
abbrev pub choice_of : List Formula → List Bool → Choice
choice_of [] bs = []
choice_of (E ∷ Es) [] = []
choice_of (E ∷ Es) (b ∷ bs) = (E, b) ∷ choice_of Es bs

-- x is the first choice against F that goes on from c, where the rest is not chosen
abbrev pub IsFirst : Choice → List Formula → Formula → Object → Type 0
IsFirst c rest F x = (z : Choice) × (first_against (going_on c (choices rest)) F ≡ Some z) × (x ≡ choice_object z)

-- a proof of F, which is true whatever is chosen, or the first choice against it
abbrev pub Decides : ArityTable → Choice → List Formula → Formula → Answer → Type 0
Decides A c rest F (Proved p) = Proves NIL NIL A One p F × IsTautology F
Decides A c rest F (Falsified x) = IsFirst c rest F x

-- the same, where the next equation E has the value b
abbrev pub DecidesWhere : ArityTable → Choice → Formula → Bool → List Formula → Formula → Answer → Type 0
DecidesWhere A c E b rest F (Proved p) = Proves NIL NIL A One p (Or (literal (not b) E) F) × ((v : Formula → Bool) → v E ≡ b → value_by v F ≡ true)
DecidesWhere A c E b rest F (Falsified x) = IsFirst (c ++ (E, b) ∷ []) rest F x

-- F follows from H, which stands for it where E has the value b: in the context d, y is the formula H, and q the proof
pub record Follows (A : ArityTable) (E : Formula) (b : Bool) (rest : List Formula) (d y q : Object) (F H : Formula) : Type 0 where
  pub context : d ≡ formula_object (literal (not b) E)
  pub formula : y ≡ formula_object H
  pub over : Over rest H
  pub same : (v : Formula → Bool) → v E ≡ b → value_by v F ≡ value_by v H
  pub from : Proves NIL NIL A One q (Or (Not H) (Or F (literal (not b) E)))

abbrev pub IsEntered : ArityTable → Choice → Formula → Bool → List Formula → Formula → Step → Type 0
IsEntered A c E b rest F (End a) = DecidesWhere A c E b rest F a
IsEntered A c E b rest F (Next d y q) = (H : Formula) × Follows A E b rest d y q F H

pub record IsFollowIn (os : List Object) (s : Follow) : Type 0 where
  pub context : IsIn os s.context
  pub formula : IsIn os s.formula
  pub from : IsIn os s.from

abbrev pub IsEnteredIn : List Object → Entered → Type 0
IsEnteredIn os (Ended o) = IsOutcomeIn os o
IsEnteredIn os (Goes s) = IsFollowIn os s

pub record IsQuestionIn (os : List Object) (q : Question) : Type 0 where
  pub formula : IsIn os q.formula
  pub equations : All (IsIn os) q.equations.now

-- the formula F of f is left to decide, where the equations before have these values
pub record IsPosed (A : ArityTable) (os : List Object) (equations : List ℕ) (chosen : List Bool) (f : ℕ) (F : Formula) (before rest : List Formula) : Type 0 where
  pub object : object_at os f ≡ formula_object F
  pub formed : is_formula A F ≡ true
  pub equations_are : map (object_at os) equations ≡ map formula_object (before ++ rest)
  pub many : length chosen ≡ length before
  pub apart : AreApart (before ++ rest)
  pub all : Each IsEquation (before ++ rest)
  pub all_formed : Each (λ E. is_formula A E ≡ true) (before ++ rest)
  pub over : Over rest F

-- f is a formula that is true whatever is chosen, and p is a proof of it
abbrev pub IsProvedAt : ArityTable → List Object → ℕ → ℕ → Type 0
IsProvedAt A os f p =
    IsIn os f × IsIn os p
    × ((F : Formula) → object_at os f ≡ formula_object F → is_formula A F ≡ true → Proves NIL NIL A One (object_at os p) F × IsTautology F)

abbrev pub AreProved : {S : Type 0} → ArityTable → List Object → IndexMap ℕ ℕ S → Type 0
AreProved A os m = (f p : ℕ) → get nat_eq m f ≡ Some p → IsProvedAt A os f p
