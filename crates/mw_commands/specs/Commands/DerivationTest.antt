-- Judging derivations by a test: the conclusion of what is a derivation, and none for other objects.
use Rattle.std.specs.Prelude.{ℕ, Bool, false, ◌&&◌, eqb, cond, List, [], ◌∷◌, map, Option, Some, None}
use Rattle.mw_model.specs.Terms.Object.{Name, Object, Natural, Symbol, Pair, same_name, same_object, NIL, second_of}
use Rattle.mw_model.specs.Terms.Term.{If, Call, Formula, Equal, Not, Or, formula_object, count, is_function_name, ArityTable, is_formula}
use Rattle.mw_model.specs.Terms.Same.{same_term, same_formula, same_formulas}
use Rattle.mw_model.specs.Terms.Reading.{formula_of, and_more, if_nil, when}
use Rattle.mw_model.specs.Values.Primitive.{Profile}
use Rattle.mw_model.specs.Values.Definition.{arity_table}
use Rattle.mw_model.specs.Proofs.Proof.{three_terms}
use Rattle.mw_model.specs.Proofs.Judgment.{methods, follows}
use Rattle.mw_model.specs.Events.Theory.{Theory}
use Rattle.mw_model.specs.Events.Refusal.{Refusal, CONCLUSION, PROOF}
use Rattle.mw_model.specs.Events.Checking.{no_unless, judged_by}
use Rattle.mw_model.specs.Events.Demand.{Judge}
use Rattle.mw_commands.specs.Commands.Derivation.{Rule, By, CommuteOr, ModusPonens, Symmetry, Transitivity, Replace, rule_name, equalities}

abbrev pub rules : List Rule
rules = CommuteOr ∷ ModusPonens ∷ Symmetry ∷ Transitivity ∷ Replace ∷ map By methods

abbrev pub rule_among : List Rule → Object → Option Rule
rule_among [] x = None
rule_among (r ∷ rs) x = cond (same_object (Symbol (rule_name r)) x) (Some r) (rule_among rs x)

-- the rows of the table of rules
abbrev pub is_commuted : Formula → Formula → Bool
is_commuted F (Or G H) = same_formula F (Or H G)
is_commuted F _ = false

abbrev pub is_detached : Formula → Formula → Formula → Bool
is_detached F G H = same_formula H (Or (Not G) F)

abbrev pub is_turned : Formula → Formula → Bool
is_turned F (Equal a b) = same_formula F (Equal b a)
is_turned F _ = false

abbrev pub is_chained : Formula → Formula → Formula → Bool
is_chained F (Equal a b) (Equal c d) = same_term b c && same_formula F (Equal a d)
is_chained F _ _ = false

abbrev pub is_replaced : Formula → List Formula → Bool
is_replaced (Equal (Call f ts) (Call g us)) Fs = is_function_name f && (same_name f g && (eqb (count ts) (count us) && same_formulas Fs (equalities ts us)))
is_replaced (Equal (If a b c) (If d e f)) Fs = same_formulas Fs (equalities (three_terms a b c) (three_terms d e f))
is_replaced _ Fs = false

abbrev pub derives : Object → Object → ArityTable → Profile → Rule → Formula → List Formula → Object → Bool
derives axioms theorems A P (By m) F Fs x = follows axioms theorems A P m F Fs x
derives axioms theorems A P CommuteOr F (G ∷ []) x = same_object x NIL && is_commuted F G
derives axioms theorems A P ModusPonens F (G ∷ H ∷ []) x = same_object x NIL && is_detached F G H
derives axioms theorems A P Symmetry F (G ∷ []) x = same_object x NIL && is_turned F G
derives axioms theorems A P Transitivity F (G ∷ H ∷ []) x = same_object x NIL && is_chained F G H
derives axioms theorems A P Replace F Fs x = same_object x NIL && is_replaced F Fs
derives axioms theorems A P r F Fs x = false

abbrev pub derive_step : Object → Object → ArityTable → Profile → Option Rule → Option Formula → Option (List Formula) → Option Object → Option Formula
derive_step axioms theorems A P (Some r) (Some F) (Some Fs) (Some x) = when (is_formula A F && derives axioms theorems A P r F Fs x) (Some F)
derive_step axioms theorems A P _ _ _ _ = None

-- the extras, from what stands after the subproofs
abbrev pub extras_of : Object → Option Object
extras_of (Pair x z) = when (same_object z NIL) (Some x)
extras_of (Symbol s) = if_nil s NIL
extras_of (Natural n) = None

-- Some F exactly where the object is a derivation of F
abbrev mutual
  pub derive : Object → Object → ArityTable → Profile → Object → Option Formula
  derive axioms theorems A P (Pair m (Pair c (Pair ps z))) = derive_step axioms theorems A P (rule_among rules m) (formula_of c) (derive_each axioms theorems A P ps) (extras_of z)
  derive axioms theorems A P (Pair m (Pair c (Symbol s))) = derive_step axioms theorems A P (rule_among rules m) (formula_of c) (Some []) (if_nil s NIL)
  derive axioms theorems A P _ = None

  pub derive_each : Object → Object → ArityTable → Profile → Object → Option (List Formula)
  derive_each axioms theorems A P (Pair p ps) = and_more (derive axioms theorems A P p) (derive_each axioms theorems A P ps)
  derive_each axioms theorems A P (Symbol s) = if_nil s []
  derive_each axioms theorems A P (Natural n) = None

-- The verdict where derivations are as good as proofs. A checker that was switched to is run on them as they stand.
abbrev pub derived_by : Option Name → Theory → Object → ℕ → Option Refusal
derived_by None t p N = no_unless PROOF (derive t.axioms t.theorems (arity_table t.definitions) t.definitions.profile p)
derived_by (Some f) t p N = judged_by (Some f) t p N

abbrev pub derived_as : Judge
derived_as t N F p = cond (same_object (second_of p) (formula_object F)) (derived_by t.checker t p N) (Some CONCLUSION)
