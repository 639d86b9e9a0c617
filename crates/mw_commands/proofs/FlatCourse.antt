-- The data of a log that a course was turned to, one event after another: each event gets a yes, and the theories are those of the course.
use Rattle.std.proofs.Common.{◌≡◌, ℕ, suc, ◌+◌, ◌<◌, Bool, true, false, ◌&&◌, cond, List, [], ◌∷◌, ◌++◌, length, map, filter, Option, Some, None, refl, sym, ap, ◌∙◌, subst, append_assoc, append-nil}
use Rattle.std.proofs.lemmas.Bool.{and_parts}
use Rattle.mw_model.specs.Terms.Object.{Object}
use Rattle.mw_model.specs.Values.Truth.{Each}
use Rattle.mw_model.specs.Events.Evaluation.{range}
use Rattle.mw_model.specs.Events.Theory.{Theory}
use Rattle.mw_model.specs.Reports.Report.{is_accepted}
use Rattle.mw_model.specs.Events.Fate.{EventWord, event_word, happens}
use Rattle.mw_model.specs.Events.Demand.{proofs_of, with_proofs}
use Rattle.mw_model.specs.Texts.Pieces.{numbered}
use Rattle.mw_commands.specs.Commands.Transition.{Transition, course_from, last_theory_from, is_acceptance}
use Rattle.mw_commands.specs.Commands.Subproofs.{distinct_proofs}
use Rattle.mw_commands.specs.Commands.Slice.{proofs_by_word}
use Rattle.mw_commands.specs.Commands.Log.{Yes, logged, is_step}
use Rattle.mw_commands.specs.Commands.LogReport.{Log, with_event, log_from, theory_after, denied}
use Rattle.mw_commands.specs.Commands.Flattening.{numbers_among, step_datum, flat_event_by, flat_event, is_switch, before_switch, is_logged_word, flat_events}
use Rattle.mw_commands.proofs.LogAccepted.{same_word}
use Rattle.mw_commands.proofs.FlatData.{steps_of_event}
use Rattle.mw_commands.proofs.FlatRead.{steps_data, flat_data}
use Rattle.mw_commands.proofs.FlatLogged.{flat_is_logged}
use Rattle.mw_commands.proofs.FlatOutcomes.{no_step, accepted_logged, left_out}

-- ---- the data of a log

steps_taken : (j : ℕ) (t : Theory) (qs : List Object) (nps : List (ℕ × Object)) (steps rest : List Object) → log_from j t steps (map (step_datum qs) nps ++ rest) ≡ log_from j t (steps ++ map (step_datum qs) nps) rest
steps_taken j t qs [] steps rest = ap (λ z. log_from j t z rest) (sym (append-nil steps))
steps_taken j t qs (np ∷ nps) steps rest =
    steps_taken j t qs nps (steps ++ step_datum qs np ∷ []) rest ∙ ap (λ z. log_from j t z rest) (append_assoc steps (step_datum qs np ∷ []) (map (step_datum qs) nps))

event_taken : (j : ℕ) (t next : Theory) (steps : List Object) (e : Object) (rest : List Object) → is_step e ≡ false → logged t steps e ≡ (Yes, next) → log_from j t steps (e ∷ rest) ≡ with_event j t steps e (Yes, next) (log_from (suc j) next [] rest)
event_taken j t next steps e rest s h =
    ap (λ b. elim b [ true ↦ log_from j t (steps ++ e ∷ []) rest | false ↦ with_event j t steps e (logged t steps e) (log_from (suc j) (logged t steps e).1 [] rest) ]) s
    ∙ ap (λ a. with_event j t steps e a (log_from (suc j) a.1 [] rest)) h

-- just these events, each with a yes, and the theory at the end
pub record Runs (log : Log) (t : Theory) (es : List Object) (end : Theory) : Type 0 where
  pub each : map (λ s. s.event) log.entered ≡ map flat_event es
  pub yes : denied log ≡ 0
  pub none_left : log.left ≡ []
  pub theory : theory_after t log.entered ≡ end

abbrev pub RunsFrom : ℕ → Theory → List Object → Theory → Type 0
RunsFrom j t es end = Runs (log_from j t [] (flat_data es)) t es end

runs_first : (j : ℕ) (t next : Theory) (e : Object) (es : List Object) (end : Theory) → is_step (flat_event e) ≡ false → logged t (steps_data e) (flat_event e) ≡ (Yes, next) → RunsFrom (suc j) next es end → RunsFrom j t (e ∷ es) end
runs_first j t next e es end s h r =
    let same = steps_taken j t (steps_of_event e) (numbered 1 (steps_of_event e)) [] (flat_event e ∷ flat_data es) ∙ event_taken j t next (steps_data e) (flat_event e) (flat_data es) s h in
    subst (λ log. Runs log t (e ∷ es) end) (sym same) (record { each = ap (λ z. flat_event e ∷ z) r.each; yes = ap (λ n. 0 + n) r.yes; none_left = r.none_left; theory = r.theory })

flat_no_step : (e : Object) (w : EventWord) → event_word e ≡ Some w → is_step (flat_event e) ≡ false
flat_no_step e w h =
    let ps = proofs_of w e in
    let event = with_proofs w e (numbers_among (distinct_proofs ps) ps) in
    ap (λ o. is_step (flat_event_by o e)) h ∙ no_step event w (same_word e w (numbers_among (distinct_proofs ps) ps) h)

-- ---- along a course

abbrev pub Few : Object → Type 0
Few e = length (steps_of_event e) < range

module _ (N : ℕ) where
  abbrev plain_from : ℕ → Theory → List Object → List Transition
  plain_from k t es = course_from (λ u e. happens u N e) k t es

  abbrev transition : ℕ → Theory → Object → Transition
  transition k t e = record { number = k; before = t; event = e; fate = (happens t N e).0; next = (happens t N e).1 }

  abbrev is_written : Transition → Bool
  is_written s = is_acceptance s && is_logged_word (event_word s.event)

  some_word : (o : Option EventWord) → is_logged_word o ≡ true → (w : EventWord) × (o ≡ Some w)
  some_word None h = cc
  some_word (Some w) h = (w, refl)

  -- an event that is written
  written_first : (j : ℕ) (t : Theory) (e : Object) (es : List Object) (end : Theory) → t.checker ≡ None → (is_accepted (happens t N e).0 && is_logged_word (event_word e)) ≡ true → Few e → ((happens t N e).1.checker ≡ None → RunsFrom (suc j) (happens t N e).1 es end) → RunsFrom j t (e ∷ es) end
  written_first j t e es end c h few more =
      let p = and_parts (is_accepted (happens t N e).0) (is_logged_word (event_word e)) h in
      let w = some_word (event_word e) p.1 in
      let logged_word : is_logged_word (Some w.0) ≡ true = sym (ap is_logged_word w.1) ∙ p.1 in
      let l = accepted_logged t N e w.0 c w.1 logged_word p.0 in
      let next : (happens t N e).1 ≡ l.next = ap (λ z. z.1) l.accepts in
      let fewer : length (distinct_proofs (proofs_of w.0 e)) < range = subst (λ o. length (distinct_proofs (proofs_by_word o e)) < range) w.1 few in
      let yes : logged t (steps_data e) (flat_event e) ≡ (Yes, l.next) =
      ap (λ o. let qs = distinct_proofs (proofs_by_word o e) in logged t (map (step_datum qs) (numbered 1 qs)) (flat_event e)) w.1 ∙ flat_is_logged t l.next N e w.0 c w.1 logged_word l.accepts fewer in
      runs_first j t l.next e es end (flat_no_step e w.0 w.1) yes (subst (λ u. RunsFrom (suc j) u es end) next (more (ap (λ u. u.checker) next ∙ l.built_in)))

  -- one event of a course, and the rest of it
  event_runs : (j k : ℕ) (t : Theory) (e : Object) (rest : List Transition) → t.checker ≡ None → ((i : ℕ) → (happens t N e).1.checker ≡ None → Each Few (flat_events rest) → RunsFrom i (happens t N e).1 (flat_events rest) (last_theory_from (happens t N e).1 (before_switch rest))) → Each Few (flat_events (transition k t e ∷ rest)) → RunsFrom j t (flat_events (transition k t e ∷ rest)) (last_theory_from t (before_switch (transition k t e ∷ rest)))
  event_runs j k t e rest c more f = switched (is_switch s) refl f
    where
      s : Transition
      s = transition k t e

      others : List Transition
      others = before_switch rest

      written : (v : Bool) → is_written s ≡ v → is_switch s ≡ false → Each Few (map (λ s. s.event) (cond v (s ∷ filter is_written others) (filter is_written others))) → RunsFrom j t (map (λ s. s.event) (cond v (s ∷ filter is_written others) (filter is_written others))) (last_theory_from s.next others)
      written true h b f = written_first j t e (flat_events rest) (last_theory_from s.next others) c h f.0 (λ d. more (suc j) d f.1)
      written false h b f = let stays = left_out t N e b h in subst (λ u. RunsFrom j u (flat_events rest) (last_theory_from s.next others)) stays (more j (ap (λ u. u.checker) stays ∙ c) f)

      switched : (b : Bool) → is_switch s ≡ b → Each Few (map (λ s. s.event) (filter is_written (cond b [] (s ∷ others)))) → RunsFrom j t (map (λ s. s.event) (filter is_written (cond b [] (s ∷ others)))) (last_theory_from t (cond b [] (s ∷ others)))
      switched true h f = record { each = refl; yes = refl; none_left = refl; theory = refl }
      switched false h f = written (is_written s) refl h f

  pub course_runs : (j k : ℕ) (t : Theory) (es : List Object) → t.checker ≡ None → Each Few (flat_events (plain_from k t es)) → RunsFrom j t (flat_events (plain_from k t es)) (last_theory_from t (before_switch (plain_from k t es)))
  course_runs j k t [] c f = record { each = refl; yes = refl; none_left = refl; theory = refl }
  course_runs j k t (e ∷ es) c f = event_runs j k t e (plain_from (suc k) (happens t N e).1 es) c (λ i d g. course_runs i (suc k) (happens t N e).1 es d g) f
