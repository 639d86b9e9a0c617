-- Propositional tautologies: formulas that are true whichever of their equations are.
use Rattle.std.specs.Prelude.{◌≡◌, ℕ, Bool, true, false, ◌||◌, not, cond, ltb, List, [], ◌∷◌, ◌++◌, length, map, Option, Some, None, if◌then◌else◌}
use Rattle.mw_model.specs.Terms.Object.{Object, Pair, NIL, truth_of}
use Rattle.mw_model.specs.Terms.Term.{Formula, Equal, Not, Or, formula_object, firsts}
use Rattle.mw_model.specs.Terms.Same.{same_formula}

-- the value of a formula, where v says which equations are true
abbrev pub value_by : (Formula → Bool) → Formula → Bool
value_by v (Equal a b) = v (Equal a b)
value_by v (Not F) = not (value_by v F)
value_by v (Or F G) = value_by v F || value_by v G

abbrev pub IsTautology : Formula → Type 0
IsTautology F = (v : Formula → Bool) → value_by v F ≡ true

abbrev pub all_equations : Formula → List Formula
all_equations (Equal a b) = Equal a b ∷ []
all_equations (Not F) = all_equations F
all_equations (Or F G) = all_equations F ++ all_equations G

-- the distinct equations, in order of first occurrence
abbrev pub equations : Formula → List Formula
equations F = firsts same_formula (all_equations F)

-- A choice gives each of the equations a truth value.
abbrev pub Choice : Type 0
Choice = List (Formula × Bool)

abbrev pub choosing : Formula → Bool → List Choice → List Choice
choosing E b cs = map (λ c. (E, b) ∷ c) cs

-- all choices, ordered equation by equation, false before true
abbrev pub choices : List Formula → List Choice
choices [] = [] ∷ []
choices (E ∷ Es) = choosing E false (choices Es) ++ choosing E true (choices Es)

-- what the choice gives an equation; false where it gives none
abbrev pub chosen : Choice → Formula → Bool
chosen [] E = false
chosen (p ∷ c) E = cond (same_formula p.0 E) p.1 (chosen c E)

abbrev pub value_under : Choice → Formula → Bool
value_under c F = value_by (chosen c) F

-- the first choice of a list that makes the formula false
abbrev pub first_against : List Choice → Formula → Option Choice
first_against [] F = None
first_against (c ∷ cs) F = cond (value_under c F) (first_against cs F) (Some c)

abbrev pub falsifying : Formula → Option Choice
falsifying F = first_against (choices (equations F)) F

-- formulas with more equations than this are not decided
abbrev pub most_equations : ℕ
most_equations = 12

pub data Decision : Type 0 where
  Many : Decision
  -- no tautology: the first choice that makes it false
  FailsUnder : Choice → Decision
  Holds : Decision

abbrev pub decided : Option Choice → Decision
decided (Some c) = FailsUnder c
decided None = Holds

abbrev pub decision : Formula → Decision
decision F = let against = falsifying F in if ltb most_equations (length (equations F)) then Many else decided against

-- as an object: a list of pairs (equation . value)
abbrev pub choice_object : Choice → Object
choice_object [] = NIL
choice_object (p ∷ c) = Pair (Pair (formula_object p.0) (truth_of p.1)) (choice_object c)
