-- Judging proofs by a test: the conclusion of what is a proof, and none for other objects.
use Rattle.std.specs.Prelude.{Bool, false, ◌&&◌, eqb, List, [], ◌∷◌, Option, Some, None, find}
use Rattle.mw_model.specs.Terms.Object.{Object, Natural, Symbol, Pair, same_name, same_object, nil_name, NIL, is_member}
use Rattle.mw_model.specs.Terms.Term.{Term, Terms, Constant, If, Call, Lambda, NoTerms, More, Formula, Equal, Not, Or, ArityTable, is_function_name, count, formula_object, is_formula}
use Rattle.mw_model.specs.Terms.Same.{same_term, same_formula, same_formulas}
use Rattle.mw_model.specs.Terms.Reading.{term_of, formula_of, and_more, if_nil, when, map2}
use Rattle.mw_model.specs.Terms.Substitution.{Substitution, substitute, substitute_formula, actuals_for, substitution_of, is_substitution}
use Rattle.mw_model.specs.Values.Primitive.{Profile, Primitive, primitive_named, apply, choose}
use Rattle.mw_model.specs.Proofs.Induction.{Case, premises, are_cases}
use Rattle.mw_model.specs.Proofs.Proof.{Method, Axiom, Theorem, PropositionalSchema, FunctionalEquality, BetaReduction, BaseEval, Expansion, Contraction, Associativity, Cut, Instantiation, Induction, method_name, unless_equal, three_terms}

abbrev pub methods : List Method
methods =
    Axiom ∷ Theorem ∷ PropositionalSchema ∷ FunctionalEquality ∷ BetaReduction ∷ BaseEval ∷
    Expansion ∷ Contraction ∷ Associativity ∷ Cut ∷ Instantiation ∷ Induction ∷ []

abbrev pub method_among : List Method → Object → Option Method
method_among ms x = find (λ m. same_object (Symbol (method_name m)) x) ms

-- the lists of substitutions and the cases that extras stand for
abbrev pub substitutions_of : Object → Option (List Substitution)
substitutions_of (Pair s r) = and_more (substitution_of s) (substitutions_of r)
substitutions_of (Symbol s) = if_nil s []
substitutions_of (Natural n) = None

abbrev pub case : Formula → List Substitution → Case
case q ss = record { condition = q; substitutions = ss }

abbrev pub cases_of : Object → Object → Option (List Case)
cases_of (Pair q qs) (Pair s ss) = and_more (map2 case (formula_of q) (substitutions_of s)) (cases_of qs ss)
cases_of (Symbol s) (Symbol r) = when (same_name s nil_name && same_name r nil_name) (Some [])
cases_of _ _ = None

-- the rows of the table of methods, on formulas
abbrev pub is_schema : Formula → Bool
is_schema (Or (Not F) G) = same_formula F G
is_schema _ = false

abbrev pub last_disjunct : Formula → Formula
last_disjunct (Or F G) = last_disjunct G
last_disjunct F = F

-- F ends with the equality of two calls of one function
abbrev pub is_functional_equality : Formula → Formula → Bool
is_functional_equality F (Equal (Call f ts) (Call g us)) =
    is_function_name f && (same_name f g && (eqb (count ts) (count us) && same_formula F (unless_equal ts us (Equal (Call f ts) (Call g us)))))
is_functional_equality F (Equal (If a b c) (If d e f)) = same_formula F (unless_equal (three_terms a b c) (three_terms d e f) (Equal (If a b c) (If d e f)))
is_functional_equality F _ = false

abbrev pub is_beta : Formula → Bool
is_beta (Equal (Lambda xs b ts) r) = same_term r (substitute (actuals_for xs ts) b)
is_beta _ = false

abbrev pub constant_values : Terms → Option (List Object)
constant_values NoTerms = Some []
constant_values (More (Constant c) ts) = and_more (Some c) (constant_values ts)
constant_values (More _ ts) = None

abbrev pub is_value : Option Primitive → Option (List Object) → Object → Bool
is_value (Some p) (Some cs) v = same_object (apply p cs) v
is_value _ _ v = false

abbrev pub is_base_eval : Profile → Formula → Bool
is_base_eval P (Equal (Call f ts) (Constant v)) = is_value (primitive_named P f) (constant_values ts) v
is_base_eval P (Equal (If (Constant a) (Constant b) (Constant c)) (Constant v)) = same_object (choose a b c) v
is_base_eval P _ = false

abbrev pub is_expansion : Formula → Formula → Bool
is_expansion (Or G H) F = same_formula H F
is_expansion _ F = false

abbrev pub is_contraction : Formula → Formula → Bool
is_contraction F G = same_formula G (Or F F)

abbrev pub is_associativity : Formula → Formula → Bool
is_associativity F (Or G (Or H K)) = same_formula F (Or (Or G H) K)
is_associativity F _ = false

abbrev pub is_cut : Formula → Formula → Formula → Bool
is_cut F (Or G H) (Or K L) = same_formula K (Not G) && same_formula F (Or H L)
is_cut F _ _ = false

abbrev pub is_instance : ArityTable → Formula → Formula → Option Substitution → Bool
is_instance A F G None = false
is_instance A F G (Some s) = is_substitution A s && same_formula F (substitute_formula s G)

abbrev pub is_induction_by : ArityTable → Formula → List Formula → Option Term → Option (List Case) → Bool
is_induction_by A F Fs (Some m) (Some cs) = are_cases A cs && same_formulas Fs (premises F m cs)
is_induction_by A F Fs _ _ = false

abbrev pub is_induction : ArityTable → Formula → List Formula → Object → Bool
is_induction A F Fs (Pair m (Pair qs (Pair ss (Symbol s)))) = same_name s nil_name && is_induction_by A F Fs (term_of m) (cases_of qs ss)
is_induction A F Fs _ = false

-- the rows without extras
abbrev pub follows_plainly : Object → Object → Profile → Method → Formula → List Formula → Bool
follows_plainly axioms theorems P Axiom F [] = is_member (formula_object F) axioms
follows_plainly axioms theorems P Theorem F [] = is_member (formula_object F) theorems
follows_plainly axioms theorems P PropositionalSchema F [] = is_schema F
follows_plainly axioms theorems P FunctionalEquality F [] = is_functional_equality F (last_disjunct F)
follows_plainly axioms theorems P BetaReduction F [] = is_beta F
follows_plainly axioms theorems P BaseEval F [] = is_base_eval P F
follows_plainly axioms theorems P Expansion F (G ∷ []) = is_expansion F G
follows_plainly axioms theorems P Contraction F (G ∷ []) = is_contraction F G
follows_plainly axioms theorems P Associativity F (G ∷ []) = is_associativity F G
follows_plainly axioms theorems P Cut F (G ∷ H ∷ []) = is_cut F G H
follows_plainly axioms theorems P m F Fs = false

-- the method, the conclusion, the subproofs' conclusions and the extras make a row
abbrev pub follows : Object → Object → ArityTable → Profile → Method → Formula → List Formula → Object → Bool
follows axioms theorems A P Instantiation F (G ∷ []) x = is_instance A F G (substitution_of x)
follows axioms theorems A P Induction F Fs x = is_induction A F Fs x
follows axioms theorems A P m F Fs x = same_object x NIL && follows_plainly axioms theorems P m F Fs

abbrev pub judge_step : Object → Object → ArityTable → Profile → Option Method → Option Formula → Option (List Formula) → Object → Option Formula
judge_step axioms theorems A P (Some m) (Some F) (Some Fs) x = when (is_formula A F && follows axioms theorems A P m F Fs x) (Some F)
judge_step axioms theorems A P _ _ _ x = None

-- Some F exactly where the object is a proof of F
abbrev mutual
  pub judge : Object → Object → ArityTable → Profile → Object → Option Formula
  judge axioms theorems A P (Pair m (Pair c (Pair ps (Pair x z)))) =
      when (same_object z NIL) (judge_step axioms theorems A P (method_among methods m) (formula_of c) (judge_each axioms theorems A P ps) x)
  judge axioms theorems A P (Pair m (Pair c (Pair ps z))) =
      when (same_object z NIL) (judge_step axioms theorems A P (method_among methods m) (formula_of c) (judge_each axioms theorems A P ps) NIL)
  judge axioms theorems A P (Pair m (Pair c z)) =
      when (same_object z NIL) (judge_step axioms theorems A P (method_among methods m) (formula_of c) (Some []) NIL)
  judge axioms theorems A P _ = None

  pub judge_each : Object → Object → ArityTable → Profile → Object → Option (List Formula)
  judge_each axioms theorems A P (Pair p ps) = and_more (judge axioms theorems A P p) (judge_each axioms theorems A P ps)
  judge_each axioms theorems A P (Symbol s) = if_nil s []
  judge_each axioms theorems A P (Natural n) = None
