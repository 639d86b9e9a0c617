-- The verdict of a theory's checker on proofs.
use Rattle.std.specs.Prelude.{ℕ, cond, List, [], ◌∷◌, Option, Some, None}
use Rattle.std.specs.Option.{option_or}
use Rattle.mw_model.specs.Terms.Object.{Name, Object, same_object, NIL, car, cdr, second_of}
use Rattle.mw_model.specs.Terms.Term.{Call, Formula, formula_object, table_object}
use Rattle.mw_model.specs.Values.Definition.{arity_table}
use Rattle.mw_model.specs.Proofs.Proof.{constants}
use Rattle.mw_model.specs.Proofs.Judgment.{judge}
use Rattle.mw_model.specs.Events.Evaluation.{Outcome, Value, Steps, Overflow, Witness, evaluate}
use Rattle.mw_model.specs.Events.Theory.{Theory}
use Rattle.mw_model.specs.Events.Refusal.{Refusal, CONCLUSION, PROOF, NILVALUE, STEPS, OVERFLOW, WITNESS}

-- The built-in checker judges by the table of methods. Another one is run, with N units, on the proof, the axioms,
-- the theorems and the arity table. None is yes.
abbrev pub no_unless : {X : Type 0} → Refusal → Option X → Option Refusal
no_unless r None = Some r
no_unless r (Some x) = None

abbrev pub verdict : Outcome → Option Refusal
verdict (Value v n) = cond (same_object v NIL) (Some NILVALUE) None
verdict Steps = Some STEPS
verdict Overflow = Some OVERFLOW
verdict Witness = Some WITNESS

abbrev pub judged_by : Option Name → Theory → Object → ℕ → Option Refusal
judged_by None t p N = no_unless PROOF (judge t.axioms t.theorems (arity_table t.definitions) t.definitions.profile p)
judged_by (Some f) t p N =
    verdict (evaluate t.definitions N [] (Call f (constants (p ∷ t.axioms ∷ t.theorems ∷ table_object (arity_table t.definitions) ∷ []))))

abbrev pub judged : Theory → Object → ℕ → Option Refusal
judged t p N = judged_by t.checker t p N

-- the second member of the proof must be the wanted formula
abbrev pub judged_as : Theory → ℕ → Formula → Object → Option Refusal
judged_as t N F p = cond (same_object (second_of p) (formula_object F)) (judged t p N) (Some CONCLUSION)

-- proof by proof, for the wanted formulas in order
abbrev pub judged_each : Theory → ℕ → List Formula → Object → Option Refusal
judged_each t N [] ps = None
judged_each t N (F ∷ Fs) ps = option_or (judged_as t N F (car ps)) (judged_each t N Fs (cdr ps))
