-- Why an object is no proof: its first step that is no proof though its subproofs are, and what is wrong with that step.
use Rattle.std.specs.Prelude.{ℕ, suc, Bool, ◌&&◌, ◌||◌, not, cond, eqb, List, [], ◌∷◌, length, map, Option, Some, None, option_map, option_to_list, is_some}
use Rattle.std.specs.Option.{option_or}
use Rattle.mw_model.specs.Terms.Object.{Object, Natural, Symbol, Pair, symbol, same_name, same_object, nil_name, NIL, car, second_of, third_of, fourth_of, has_members, list4}
use Rattle.mw_model.specs.Terms.Term.{Term, Constant, If, Call, Lambda, Formula, Equal, Not, Or, ArityTable, formula_object, is_formula}
use Rattle.mw_model.specs.Terms.Reading.{term_of, formula_under, map2, that, when}
use Rattle.mw_model.specs.Terms.Substitution.{substitute, substitute_formula, actuals_for, substitution_of, is_substitution}
use Rattle.mw_model.specs.Values.Primitive.{Profile, primitive_named, apply, choose}
use Rattle.mw_model.specs.Values.Definition.{arity_table}
use Rattle.mw_model.specs.Proofs.Induction.{Case, premises, are_cases}
use Rattle.mw_model.specs.Proofs.Proof.{Method, PropositionalSchema, FunctionalEquality, BetaReduction, BaseEval, Expansion, Contraction, Associativity, Cut, Instantiation, Induction, unless_equal, three_terms}
use Rattle.mw_model.specs.Proofs.Judgment.{methods, method_among, cases_of, last_disjunct, constant_values, follows, judge, judge_each}
use Rattle.mw_model.specs.Events.Theory.{Theory}
use Rattle.mw_model.specs.Events.Fate.{is_out_of_range}
use Rattle.mw_commands.specs.Commands.ExplanationTerms.{bad_formula, part_shown}

-- ---- the step

-- a step of a proof, and the numbers of the subproofs that lead to it
pub record Placed : Type 0 where
  pub place : List ℕ
  pub step : Object

abbrev pub placed : List ℕ → Object → Placed
placed ks p = record { place = ks; step = p }

-- nothing, where p passes the test; else what is found inside, and p where nothing is
abbrev pub or_here : (Object → Bool) → Object → Option Placed → Option Placed
or_here good p inside = cond (good p) None (option_or inside (Some (placed [] p)))

abbrev pub in_subproof : ℕ → Option Placed → Option Placed
in_subproof k found = option_map (λ b. placed (k ∷ b.place) b.step) found

-- The first step that does not pass the test, subproofs first and from left to right: of a proof, and of a list of proofs from number k on.
abbrev mutual
  pub first_bad : (Object → Bool) → Object → Option Placed
  first_bad good (Pair m (Pair c (Pair ps x))) = or_here good (Pair m (Pair c (Pair ps x))) (first_bad_among good 1 ps)
  first_bad good p = or_here good p None

  pub first_bad_among : (Object → Bool) → ℕ → Object → Option Placed
  first_bad_among good k (Pair p ps) = option_or (in_subproof k (first_bad good p)) (first_bad_among good (suc k) ps)
  first_bad_among good k _ = None

abbrev pub is_proof_at : Theory → Object → Bool
is_proof_at t p = is_some (judge t.axioms t.theorems (arity_table t.definitions) t.definitions.profile p)

-- ---- what is wrong with it

abbrev pub listed : List Object → Object
listed [] = NIL
listed (x ∷ xs) = Pair x (listed xs)

abbrev pub conclusions_shown : Object → Object
conclusions_shown (Pair p ps) = Pair (second_of p) (conclusions_shown ps)
conclusions_shown _ = NIL

-- (method conclusion (conclusions of the subproofs) extras)
abbrev pub step_shown : Object → Object
step_shown p = list4 (car p) (second_of p) (conclusions_shown (third_of p)) (fourth_of p)

abbrev pub has_proof_shape : Object → Bool
has_proof_shape p = has_members 2 p || (has_members 3 p || has_members 4 p)

-- how many subproofs a method has; for INDUCTION its extras decide
abbrev pub subproof_count : Method → ℕ
subproof_count Cut = 2
subproof_count Expansion = 1
subproof_count Contraction = 1
subproof_count Associativity = 1
subproof_count Instantiation = 1
subproof_count _ = 0

abbrev pub are_extras : ArityTable → Method → Object → Bool
are_extras A Instantiation x = is_some (that (is_substitution A) (substitution_of x))
are_extras A m x = same_object x NIL

-- the premises of an INDUCTION on F with these extras; nothing, where they are no extras of one
abbrev pub premises_by : ArityTable → Formula → Option Term → Option (List Case) → Option (List Formula)
premises_by A F (Some m) (Some cs) = when (are_cases A cs) (Some (premises F m cs))
premises_by A F _ _ = None

abbrev pub premises_wanted : ArityTable → Formula → Object → Option (List Formula)
premises_wanted A F (Pair m (Pair qs (Pair ss (Symbol s)))) = when (same_name s nil_name) (premises_by A F (term_of m) (cases_of qs ss))
premises_wanted A F _ = None

-- the conclusion that may be meant, all else being as it stands
abbrev pub equal_calls : Formula → Option Formula
equal_calls (Equal (Call f ts) (Call g us)) = Some (unless_equal ts us (Equal (Call f ts) (Call g us)))
equal_calls (Equal (If a b c) (If d e f)) = Some (unless_equal (three_terms a b c) (three_terms d e f) (Equal (If a b c) (If d e f)))
equal_calls _ = None

abbrev pub candidate : Profile → Method → Formula → List Formula → Object → Option Formula
candidate P PropositionalSchema (Or F G) Fs x = Some (Or (Not G) G)
candidate P FunctionalEquality F Fs x = equal_calls (last_disjunct F)
candidate P BetaReduction (Equal (Lambda xs b ts) r) Fs x = Some (Equal (Lambda xs b ts) (substitute (actuals_for xs ts) b))
candidate P BaseEval (Equal (Call f ts) r) Fs x = map2 (λ p cs. Equal (Call f ts) (Constant (apply p cs))) (primitive_named P f) (constant_values ts)
candidate P BaseEval (Equal (If (Constant a) (Constant b) (Constant c)) r) Fs x = Some (Equal (If (Constant a) (Constant b) (Constant c)) (Constant (choose a b c)))
candidate P Expansion (Or G H) (F ∷ Fs) x = Some (Or G F)
candidate P Contraction F (Or G H ∷ Fs) x = Some G
candidate P Associativity F (Or G (Or H K) ∷ Fs) x = Some (Or (Or G H) K)
candidate P Cut F (Or G H ∷ Or K L ∷ Fs) x = Some (Or H L)
candidate P Instantiation F (G ∷ Fs) x = option_map (λ s. substitute_formula s G) (substitution_of x)
candidate P m F Fs x = None

-- the same, where it follows and can be written
abbrev pub mended : Object → Object → ArityTable → Profile → Method → Formula → List Formula → Object → Option Formula
mended axioms theorems A P m F Fs x = that (λ G. is_formula A G && (not (is_out_of_range (formula_object G)) && follows axioms theorems A P m G Fs x)) (candidate P m F Fs x)

-- Of a step whose row does not hold: the first condition that fails, and what it wants.
abbrev pub wrong_induction : Option (List Formula) → List Object
wrong_induction (Some Fs) = symbol "PREMISES" ∷ listed (map formula_object Fs) ∷ []
wrong_induction None = symbol "EXTRAS" ∷ []

abbrev pub wrong_row : Object → Object → ArityTable → Profile → Method → Formula → List Formula → Object → List Object
wrong_row axioms theorems A P Induction F Fs x = wrong_induction (premises_wanted A F x)
wrong_row axioms theorems A P m F Fs x =
    cond (not (are_extras A m x)) (symbol "EXTRAS" ∷ [])
    (cond (not (eqb (length Fs) (subproof_count m))) (symbol "PREMISES" ∷ Natural (subproof_count m) ∷ [])
    (symbol "RULE" ∷ option_to_list (option_map formula_object (mended axioms theorems A P m F Fs x))))

-- The same of a step whose subproofs are proofs. So they have conclusions exactly where they are a proper list.
abbrev pub wrong_parts : Theory → Object → Option Method → Option Formula → Option (List Formula) → List Object
wrong_parts t p None oF oFs = symbol "METHOD" ∷ []
wrong_parts t p (Some m) None oFs = symbol "FORMULA" ∷ part_shown (arity_table t.definitions) (bad_formula (arity_table t.definitions) (second_of p))
wrong_parts t p (Some m) (Some F) None = symbol "SUBPROOFS" ∷ []
wrong_parts t p (Some m) (Some F) (Some Fs) = wrong_row t.axioms t.theorems (arity_table t.definitions) t.definitions.profile m F Fs (fourth_of p)

-- the step, the condition, and what that wants
abbrev pub wrong_step : Theory → Object → List Object
wrong_step t p =
    let A = arity_table t.definitions in
    cond (has_proof_shape p) (step_shown p ∷ wrong_parts t p (method_among methods (car p)) (formula_under A (second_of p)) (judge_each t.axioms t.theorems A t.definitions.profile (third_of p)))
    (p ∷ symbol "SHAPE" ∷ [])

-- its place, and what is wrong with it
abbrev pub placed_step : Theory → Option Placed → List Object
placed_step t (Some b) = listed (map Natural b.place) ∷ wrong_step t b.step
placed_step t None = []

abbrev pub bad_step_shown : Theory → Object → List Object
bad_step_shown t p = placed_step t (first_bad (is_proof_at t) p)
