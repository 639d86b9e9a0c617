-- Each event of a log keeps a sound theory sound and the checker built in, and what gets a yes is true.
use Rattle.std.proofs.Common.{◌≡◌, ℕ, suc, Bool, true, false, List, [], ◌∷◌, ◌++◌, Option, Some, None, refl, sym, ap, ◌∙◌, subst}
use Rattle.mw_model.specs.Terms.Object.{Object}
use Rattle.mw_model.specs.Terms.Term.{Formula}
use Rattle.mw_model.specs.Values.Primitive.{One}
use Rattle.mw_model.specs.Values.Definition.{arity_table}
use Rattle.mw_model.specs.Values.Truth.{Each, AreTrueIn}
use Rattle.mw_model.specs.Events.Theory.{Theory, initial, IsSound}
use Rattle.mw_model.specs.Events.Demand.{Demand, Denied, Wants, demand, with_proofs}
use Rattle.mw_model.specs.Reports.Keeping.{formulas_by}
use Rattle.mw_truth.proofs.Reached.{initial_sound, event_keeps-built_in}
use Rattle.mw_commands.specs.Commands.Log.{Answer, Yes, No, Entry, entry_of, conclusions, are_concluded, answer_to_goal, answer_to_demand, answer_to_steps, answer_to_entry, logged, is_step}
use Rattle.mw_commands.specs.Commands.LogReport.{Log, with_event, log_from, log_of, theory_after}
use Rattle.mw_commands.specs.Headlines.{formulas_answered, EntryKeeps}
use Rattle.mw_commands.specs.Logged.{LoggedKeeps}
use Rattle.mw_commands.proofs.Leading.{Asks, asks}
use Rattle.mw_commands.proofs.LogAccepted.{yes_is_accepted, no_leaves_theory}

-- ---- the checker

-- no event of a log switches to a checker
module _ (t : Theory) (c : t.checker ≡ None) where
  goal_built_in : (next : Theory) → next.checker ≡ None → (b : Bool) → (answer_to_goal t next b).1.checker ≡ None
  goal_built_in next k true = k
  goal_built_in next k false = c

  demand_built_in : (Fs : List Formula) (ns : List ℕ) (d : Demand) → Asks (λ Gs u. u.checker ≡ None) d → (answer_to_demand t Fs ns d).1.checker ≡ None
  demand_built_in Fs ns (Denied r) k = c
  demand_built_in Fs ns (Wants wanted next) k = goal_built_in next k (are_concluded Fs ns wanted)

  steps_built_in : (e : Object) (entry : Entry) (o : Option (List Formula)) → (answer_to_steps t e entry o).1.checker ≡ None
  steps_built_in e entry None = c
  steps_built_in e entry (Some Fs) = demand_built_in Fs entry.numbers (demand entry.word t e) (asks (λ u. u.checker ≡ None) t c (λ B. c) (λ F. c) refl entry.word e)

  entry_built_in : (steps : List Object) (e : Object) (o : Option Entry) → (answer_to_entry t steps e o).1.checker ≡ None
  entry_built_in steps e None = c
  entry_built_in steps e (Some entry) = steps_built_in e entry (conclusions t.axioms t.theorems (arity_table t.definitions) t.definitions.profile steps)

-- ---- an event

module _ (t : Theory) (steps : List Object) (e : Object) (s : IsSound t) (c : t.checker ≡ None) where
  -- of an answer with the theory after it: the theory is sound, and the formulas that it brings are true
  abbrev Keeps : Answer × Theory → Type 0
  Keeps a = IsSound a.1 × AreTrueIn a.1.definitions (formulas_answered a.0 a.1 e)

  yes_keeps : (next : Theory) → logged t steps e ≡ (Yes, next) → Keeps (Yes, next)
  yes_keeps next h =
      let y = yes_is_accepted t next 0 steps e c h in
      let event = with_proofs y.0 e y.1 in
      let k = event_keeps-built_in t 0 event s c in (
        subst (λ r. IsSound r.1) y.3 k.sound,
        subst (AreTrueIn next.definitions) y.4 (subst (λ r. AreTrueIn r.1.definitions (formulas_by r.0 r.1 event)) y.3 k.true_formulas),
      )

  answer_keeps : (a : Answer × Theory) → logged t steps e ≡ a → Keeps a
  answer_keeps (Yes, next) h = yes_keeps next h
  answer_keeps (No o, next) h = (subst IsSound (sym (no_leaves_theory t steps e o (ap (λ z. z.0) h)) ∙ ap (λ z. z.1) h) s, tt)

  pub logged_keeps : LoggedKeeps t steps e
  logged_keeps =
      let k = answer_keeps (logged t steps e) refl in
      record { true_formulas = k.1; unchanged = no_leaves_theory t steps e; sound = k.0; built_in = entry_built_in t c steps e (entry_of e) }

-- ---- a log

-- of the rest of a log from a theory on: each event keeps truth, and the theory at the end is sound
abbrev LogKeeps : Theory → Log → Type 0
LogKeeps t log = Each EntryKeeps log.entered × IsSound (theory_after t log.entered)

event_first : (k : ℕ) (t : Theory) (steps : List Object) (e : Object) (log : Log) → LoggedKeeps t steps e → LogKeeps (logged t steps e).1 log → LogKeeps t (with_event k t steps e (logged t steps e) log)
event_first k t steps e log h rest =
    ((record { true_formulas = h.true_formulas; unchanged = h.unchanged; sound = h.sound }, rest.0), rest.1)

either_keeps : (t : Theory) (b : Bool) (p q : Log) → LogKeeps t p → LogKeeps t q → LogKeeps t (elim b [ true ↦ p | false ↦ q ])
either_keeps t true p q h k = h
either_keeps t false p q h k = k

log_keeps : (xs : List Object) (k : ℕ) (t : Theory) (steps : List Object) → IsSound t → t.checker ≡ None → LogKeeps t (log_from k t steps xs)
log_keeps [] k t steps s c = (tt, s)
log_keeps (x ∷ xs) k t steps s c =
    let a = logged t steps x in
    let h = logged_keeps t steps x s c in
    let rest = log_from (suc k) a.1 [] xs in
    either_keeps t (is_step x) (log_from k t (steps ++ x ∷ []) xs) (with_event k t steps x a rest) (log_keeps xs k t (steps ++ x ∷ []) s c) (event_first k t steps x rest h (log_keeps xs (suc k) a.1 [] h.sound h.built_in))

pub log_of-keeps : (xs : List Object) → LogKeeps (initial One) (log_of xs)
log_of-keeps xs = log_keeps xs 1 (initial One) [] (initial_sound One) refl
