-- The premises of an induction.
use Rattle.std.specs.Prelude.{Bool, List, [], ◌∷◌, ◌++◌, map, flat_map}
use Rattle.std.specs.List.{list_all}
use Rattle.mw_model.specs.Terms.Object.{Object, Pair, NIL}
use Rattle.mw_model.specs.Terms.Term.{Term, Formula, Not, Or, ArityTable, formula_object}
use Rattle.mw_model.specs.Terms.Substitution.{Substitution, substitute, substitute_formula, substitution_object, is_substitution}
use Rattle.mw_model.specs.Events.Obligation.{ordinal_formula, below_formula}

-- a case q, and the substitutions for which F may be supposed there
pub record Case : Type 0 where
  pub condition : Formula
  pub substitutions : List Substitution

-- F or G1 or .. or Gn
abbrev pub disjunction : Formula → List Formula → Formula
disjunction F [] = F
disjunction F (G ∷ Gs) = Or F (disjunction G Gs)

-- F or q1 or .. or qk
abbrev pub base_premise : Formula → List Case → Formula
base_premise F cs = disjunction F (map (λ c. c.condition) cs)

-- F or not q or not F/s or ..
abbrev pub step_premise : Formula → Case → Formula
step_premise F c = disjunction F (Not c.condition ∷ map (λ s. Not (substitute_formula s F)) c.substitutions)

-- not q or (ord< m/s m) = 't
abbrev pub fall_premise : Term → Formula → Substitution → Formula
fall_premise m q s = Or (Not q) (below_formula (substitute s m) m)

abbrev pub fall_premises : Term → List Case → List Formula
fall_premises m cs = flat_map (λ c. map (fall_premise m c.condition) c.substitutions) cs

abbrev pub premises : Formula → Term → List Case → List Formula
premises F m cs = base_premise F cs ∷ (map (step_premise F) cs ++ (ordinal_formula m ∷ fall_premises m cs))

-- as objects: (q1 .. qk) and (S1 .. Sk)
abbrev pub conditions_object : List Case → Object
conditions_object [] = NIL
conditions_object (c ∷ cs) = Pair (formula_object c.condition) (conditions_object cs)

abbrev pub substitutions_object : List Substitution → Object
substitutions_object [] = NIL
substitutions_object (s ∷ ss) = Pair (substitution_object s) (substitutions_object ss)

abbrev pub cases_object : List Case → Object
cases_object [] = NIL
cases_object (c ∷ cs) = Pair (substitutions_object c.substitutions) (cases_object cs)

abbrev pub are_substitutions : ArityTable → List Substitution → Bool
are_substitutions A ss = list_all (is_substitution A) ss

abbrev pub are_cases : ArityTable → List Case → Bool
are_cases A cs = list_all (λ c. are_substitutions A c.substitutions) cs
