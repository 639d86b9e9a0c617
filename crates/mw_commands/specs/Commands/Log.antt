-- Logs: books whose proofs are lists of single steps, each a datum, with numbers in place of subproofs.
use Rattle.std.specs.Prelude.{ℕ, zero, suc, ◌+◌, Bool, true, false, ◌&&◌, not, List, [], ◌∷◌, ◌++◌, length, Option, Some, None, codes, is_some}
use Rattle.mw_model.specs.Terms.Object.{Object, Natural, Symbol, Pair, symbol, same_object, second_of, third_of, fourth_of, fifth_of, sixth_of, has_members}
use Rattle.mw_model.specs.Terms.Term.{Formula, ArityTable}
use Rattle.mw_model.specs.Terms.Same.{same_formula}
use Rattle.mw_model.specs.Terms.Reading.{and_more, if_nil, when, formula_of}
use Rattle.mw_model.specs.Values.Primitive.{Profile}
use Rattle.mw_model.specs.Values.Definition.{arity_table}
use Rattle.mw_model.specs.Proofs.Judgment.{methods, method_among, judge_step}
use Rattle.mw_model.specs.Events.Theory.{Theory}
use Rattle.mw_model.specs.Events.Admission.{some_drafts}
use Rattle.mw_model.specs.Events.Fate.{EventWord, Verify, Define, Skolem, Switch, Eval, Print, DefineAll, SetProfile, event_word, is_out_of_range}
use Rattle.mw_model.specs.Events.Demand.{Demand, Denied, Wants, demand}

-- a proper list of naturals
abbrev pub natural_of : Object → Option ℕ
natural_of (Natural n) = Some n
natural_of (Symbol s) = None
natural_of (Pair a b) = None

abbrev pub naturals_of : Object → Option (List ℕ)
naturals_of (Pair a r) = and_more (natural_of a) (naturals_of r)
naturals_of (Symbol s) = if_nil s []
naturals_of (Natural n) = None

-- the formula of this number, counted from 1
abbrev pub formula_numbered : List Formula → ℕ → Option Formula
formula_numbered Fs zero = None
formula_numbered [] (suc n) = None
formula_numbered (F ∷ Fs) (suc zero) = Some F
formula_numbered (F ∷ Fs) (suc (suc n)) = formula_numbered Fs (suc n)

abbrev pub formulas_numbered : List Formula → List ℕ → Option (List Formula)
formulas_numbered Fs [] = Some []
formulas_numbered Fs (n ∷ ns) = and_more (formula_numbered Fs n) (formulas_numbered Fs ns)

abbrev pub formulas_at : List Formula → Option (List ℕ) → Option (List Formula)
formulas_at Fs None = None
formulas_at Fs (Some ns) = formulas_numbered Fs ns

-- The conclusion of a step (step n method conclusion (i1 .. ik) extras) after steps with the conclusions Fs: none, where the step is not good.
abbrev pub conclusion : Object → Object → ArityTable → Profile → List Formula → Object → Option Formula
conclusion axioms theorems A P Fs x =
    when (has_members 6 x && (not (is_out_of_range x) && same_object (second_of x) (Natural (length Fs + 1))))
    (judge_step axioms theorems A P (method_among methods (third_of x)) (formula_of (fourth_of x)) (formulas_at Fs (naturals_of (fifth_of x))) (sixth_of x))

-- those of steps, one after another: none, where one step is not good
abbrev pub and_conclusions : (List Formula → Option (List Formula)) → List Formula → Option Formula → Option (List Formula)
and_conclusions rest Fs None = None
and_conclusions rest Fs (Some F) = rest (Fs ++ F ∷ [])

abbrev pub conclusions_after : Object → Object → ArityTable → Profile → List Object → List Formula → Option (List Formula)
conclusions_after axioms theorems A P [] Fs = Some Fs
conclusions_after axioms theorems A P (x ∷ xs) Fs = and_conclusions (conclusions_after axioms theorems A P xs) Fs (conclusion axioms theorems A P Fs x)

abbrev pub conclusions : Object → Object → ArityTable → Profile → List Object → Option (List Formula)
conclusions axioms theorems A P steps = conclusions_after axioms theorems A P steps []

-- why an event of a log is refused
pub data Objection : Type 0 where
  SHAPE STEP ADMIT GOAL : Objection

abbrev pub objection_number : Objection → ℕ
objection_number SHAPE = 20
objection_number STEP = 23
objection_number ADMIT = 24
objection_number GOAL = 25

abbrev pub objection_word : Objection → List ℕ
objection_word SHAPE = codes "SHAPE"
objection_word STEP = codes "STEP"
objection_word ADMIT = codes "ADMIT"
objection_word GOAL = codes "GOAL"

-- yes, or no for a reason
pub data Answer : Type 0 where
  Yes : Answer
  No : Objection → Answer

-- An event of a log has one of five words, and numbers of steps where its proofs would stand.
pub record Entry : Type 0 where
  pub word : EventWord
  pub numbers : List ℕ

abbrev pub one_number : Option ℕ → Option (List ℕ)
one_number None = None
one_number (Some n) = Some (n ∷ [])

abbrev pub numbers_of : EventWord → Object → Option (List ℕ)
numbers_of Verify e = one_number (natural_of (fourth_of e))
numbers_of Define e = naturals_of (sixth_of e)
numbers_of DefineAll e = when (is_some (some_drafts (second_of e))) (naturals_of (third_of e))
numbers_of Skolem e = Some []
numbers_of SetProfile e = Some []
numbers_of Switch e = None
numbers_of Eval e = None
numbers_of Print e = None

abbrev pub entry_with : EventWord → Option (List ℕ) → Option Entry
entry_with w None = None
entry_with w (Some ns) = Some (record { word = w; numbers = ns })

abbrev pub entry_by : Option EventWord → Object → Option Entry
entry_by None e = None
entry_by (Some w) e = entry_with w (numbers_of w e)

abbrev pub entry_of : Object → Option Entry
entry_of e = when (not (is_out_of_range e)) (entry_by (event_word e) e)

-- the numbers are those of steps with just the wanted conclusions
abbrev pub is_that_formula : Option Formula → Formula → Bool
is_that_formula None F = false
is_that_formula (Some G) F = same_formula G F

abbrev pub are_concluded : List Formula → List ℕ → List Formula → Bool
are_concluded Fs [] [] = true
are_concluded Fs (n ∷ ns) (F ∷ wanted) = is_that_formula (formula_numbered Fs n) F && are_concluded Fs ns wanted
are_concluded Fs _ _ = false

-- the tests of an event after its steps, in order; without a yes the theory stays
abbrev pub answer_to_goal : Theory → Theory → Bool → Answer × Theory
answer_to_goal t next true = (Yes, next)
answer_to_goal t next false = (No GOAL, t)

abbrev pub answer_to_demand : Theory → List Formula → List ℕ → Demand → Answer × Theory
answer_to_demand t Fs ns (Denied r) = (No ADMIT, t)
answer_to_demand t Fs ns (Wants wanted next) = answer_to_goal t next (are_concluded Fs ns wanted)

abbrev pub answer_to_steps : Theory → Object → Entry → Option (List Formula) → Answer × Theory
answer_to_steps t e entry None = (No STEP, t)
answer_to_steps t e entry (Some Fs) = answer_to_demand t Fs entry.numbers (demand entry.word t e)

abbrev pub answer_to_entry : Theory → List Object → Object → Option Entry → Answer × Theory
answer_to_entry t steps e None = (No SHAPE, t)
answer_to_entry t steps e (Some entry) =
    answer_to_steps t e entry (conclusions t.axioms t.theorems (arity_table t.definitions) t.definitions.profile steps)

-- The answer to an event after these steps, and the theory from then on.
abbrev pub logged : Theory → List Object → Object → Answer × Theory
logged t steps e = answer_to_entry t steps e (entry_of e)

-- a datum that begins with STEP is a step, any other an event
abbrev pub is_step : Object → Bool
is_step (Pair h r) = same_object h (symbol "STEP")
is_step (Natural n) = false
is_step (Symbol s) = false
