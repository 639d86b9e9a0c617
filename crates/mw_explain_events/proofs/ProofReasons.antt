-- For which reasons proofs are refused.
use Rattle.std.proofs.Common.{◌≡◌, ℕ, Bool, true, false, cond, List, [], ◌∷◌, Option, Some, None, refl, subst}
use Rattle.std.specs.Option.{option_or}
use Rattle.mw_model.specs.Terms.Object.{Name, Object, NIL, same_object, second_of, car, cdr}
use Rattle.mw_model.specs.Terms.Term.{Formula, Call, formula_object, table_object}
use Rattle.mw_model.specs.Values.Definition.{arity_table}
use Rattle.mw_model.specs.Proofs.Proof.{constants}
use Rattle.mw_model.specs.Proofs.Judgment.{judge}
use Rattle.mw_model.specs.Events.Evaluation.{Outcome, Value, Steps, Overflow, Witness, evaluate}
use Rattle.mw_model.specs.Events.Theory.{Theory}
use Rattle.mw_model.specs.Events.Refusal.{Refusal, CONCLUSION, PROOF, NILVALUE, STEPS, OVERFLOW, WITNESS}
use Rattle.mw_model.specs.Events.Checking.{no_unless, verdict, judged_by, judged}
use Rattle.mw_model.specs.Events.Demand.{each_judged}
use Rattle.mw_theory.specs.Proofs.{by_formula}
use Rattle.mw_kernel.specs.Proofs.{judged_for}
use Rattle.mw_explain_events.specs.Reasons.{is_of_definitions}

abbrev pub is_of_proofs : Refusal → Bool
is_of_proofs CONCLUSION = true
is_of_proofs PROOF = true
is_of_proofs NILVALUE = true
is_of_proofs STEPS = true
is_of_proofs OVERFLOW = true
is_of_proofs WITNESS = true
is_of_proofs _ = false

-- what holds of the reason that is given, where one is
abbrev Holds : (Refusal → Type 0) → Option Refusal → Type 0
Holds P None = Unit {0}
Holds P (Some r) = P r

abbrev OfProofs : Refusal → Type 0
OfProofs r = is_of_proofs r ≡ true

-- where it is PROOF, the checker is the built-in one
abbrev ByRules : Option Name → Refusal → Type 0
ByRules c r = r ≡ PROOF → c ≡ None

holds-some : (P : Refusal → Type 0) (o : Option Refusal) (r : Refusal) → Holds P o → o ≡ Some r → P r
holds-some P o r h e = subst (Holds P) e h

module _ (t : Theory) (N : ℕ) where
  by_value : (b : Bool) → Holds OfProofs (cond b (Some NILVALUE) None)
  by_value true = refl
  by_value false = tt

  by_verdict : (o : Outcome) → Holds OfProofs (verdict o)
  by_verdict (Value v n) = by_value (same_object v NIL)
  by_verdict Steps = refl
  by_verdict Overflow = refl
  by_verdict Witness = refl

  by_rules : (o : Option Formula) → Holds OfProofs (no_unless PROOF o)
  by_rules None = refl
  by_rules (Some F) = tt

  module _ (p : Object) where
    abbrev run_of : Name → Outcome
    run_of f = evaluate t.definitions N [] (Call f (constants (p ∷ t.axioms ∷ t.theorems ∷ table_object (arity_table t.definitions) ∷ [])))

    by_checker : (c : Option Name) → Holds OfProofs (judged_by c t p N)
    by_checker None = by_rules (judge t.axioms t.theorems (arity_table t.definitions) t.definitions.profile p)
    by_checker (Some f) = by_verdict (run_of f)

    by_conclusion : (b : Bool) → Holds OfProofs (cond b (judged t p N) (Some CONCLUSION))
    by_conclusion true = by_checker t.checker
    by_conclusion false = refl

  pub proof-reason : (f p : Object) (r : Refusal) → judged_for N t f p ≡ Some r → is_of_proofs r ≡ true
  proof-reason f p r e = holds-some OfProofs (judged_for N t f p) r (by_conclusion p (same_object (second_of p) f)) e

  -- a run is no table of methods
  value_not : (b : Bool) (f : Name) → Holds (ByRules (Some f)) (cond b (Some NILVALUE) None)
  value_not true f = λ h. cc
  value_not false f = tt

  verdict_not : (o : Outcome) (f : Name) → Holds (ByRules (Some f)) (verdict o)
  verdict_not (Value v n) f = value_not (same_object v NIL) f
  verdict_not Steps f = λ h. cc
  verdict_not Overflow f = λ h. cc
  verdict_not Witness f = λ h. cc

  rules_built_in : (o : Option Formula) → Holds (ByRules None) (no_unless PROOF o)
  rules_built_in None = λ h. refl
  rules_built_in (Some F) = tt

  module _ (p : Object) where
    checker_built_in : (c : Option Name) → Holds (ByRules c) (judged_by c t p N)
    checker_built_in None = rules_built_in (judge t.axioms t.theorems (arity_table t.definitions) t.definitions.profile p)
    checker_built_in (Some f) = verdict_not (run_of p f) f

    conclusion_built_in : (b : Bool) → Holds (ByRules t.checker) (cond b (judged t p N) (Some CONCLUSION))
    conclusion_built_in true = checker_built_in t.checker
    conclusion_built_in false = λ h. cc

  -- the same of the first proof that is refused
  first_holds : (P : Refusal → Type 0) (o rest : Option Refusal) → Holds P o → Holds P rest → Holds P (option_or o rest)
  first_holds P None rest h k = k
  first_holds P (Some r) rest h k = h

  each_holds : (P : Refusal → Type 0) → ((f p : Object) → Holds P (judged_for N t f p)) → (Fs : List Formula) (ps : Object) → Holds P (each_judged (by_formula (judged_for N)) t 0 Fs ps)
  each_holds P h [] ps = tt
  each_holds P h (F ∷ Fs) ps = first_holds P (judged_for N t (formula_object F) (car ps)) (each_judged (by_formula (judged_for N)) t 0 Fs (cdr ps)) (h (formula_object F) (car ps)) (each_holds P h Fs (cdr ps))

  pub proofs-reason : (Fs : List Formula) (ps : Object) (r : Refusal) → each_judged (by_formula (judged_for N)) t 0 Fs ps ≡ Some r → is_of_proofs r ≡ true
  proofs-reason Fs ps r e = holds-some OfProofs (each_judged (by_formula (judged_for N)) t 0 Fs ps) r (each_holds OfProofs (λ f p. by_conclusion p (same_object (second_of p) f)) Fs ps) e

  pub proofs-built-in : (Fs : List Formula) (ps : Object) (r : Refusal) → each_judged (by_formula (judged_for N)) t 0 Fs ps ≡ Some r → r ≡ PROOF → t.checker ≡ None
  proofs-built-in Fs ps r e = holds-some (ByRules t.checker) (each_judged (by_formula (judged_for N)) t 0 Fs ps) r (each_holds (ByRules t.checker) (λ f p. conclusion_built_in p (same_object (second_of p) f)) Fs ps) e

-- they are none of those of definitions
pub proofs-not-definitions : (r : Refusal) → is_of_proofs r ≡ true → is_of_definitions r ≡ false
proofs-not-definitions CONCLUSION h = refl
proofs-not-definitions PROOF h = refl
proofs-not-definitions NILVALUE h = refl
proofs-not-definitions STEPS h = refl
proofs-not-definitions OVERFLOW h = refl
proofs-not-definitions WITNESS h = refl
proofs-not-definitions _ h = cc
