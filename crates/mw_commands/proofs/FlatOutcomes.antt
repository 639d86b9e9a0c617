-- What an event comes to before the first switch: it is as a log takes it, or leaves the theory.
use Rattle.std.proofs.Common.{◌≡◌, ℕ, Bool, true, false, ◌&&◌, cond, Option, Some, None, refl, sym, ap, ◌∙◌, subst}
use Rattle.std.proofs.lemmas.Bool.{true≢false, false_from_ne_true}
use Rattle.mw_model.specs.Terms.Object.{Name, Object, Natural, Symbol, Pair, named, same_name, has_members}
use Rattle.mw_model.specs.Events.Theory.{Theory}
use Rattle.mw_model.specs.Events.Refusal.{COUNT, Fate, Accepted, Refused, accept, must, unless}
use Rattle.mw_model.specs.Events.Checking.{judged_as}
use Rattle.mw_model.specs.Reports.Report.{is_accepted}
use Rattle.mw_model.specs.Events.Fate.{EventWord, Verify, Define, Skolem, Switch, Eval, Print, DefineAll, SetProfile, event_words, event_word_among, member_count, event_word, is_out_of_range, happens}
use Rattle.mw_model.specs.Terms.Reading.{that}
use Rattle.mw_model.specs.Events.Fate.{member_count}
use Rattle.mw_model.specs.Events.Demand.{Demand, demand, proofs_of, each_judged, settled}
use Rattle.mw_model.proofs.Names.{same_name-eq, same_name-from}
use Rattle.mw_model.proofs.ReadBack.{when_some}
use Rattle.mw_model.proofs.Demands.{as_before}
use Rattle.mw_model.proofs.Unchanged.{unchanged}
use Rattle.mw_commands.specs.Commands.Slice.{begins_with}
use Rattle.mw_commands.specs.Commands.Log.{is_step}
use Rattle.mw_commands.specs.Commands.Flattening.{is_logged_word}
use Rattle.mw_commands.proofs.Settling.{accepted_in_range, without_word, Satisfied, satisfied}
use Rattle.mw_commands.proofs.LogAccepted.{happens_as}
use Rattle.mw_commands.proofs.Leading.{Asks, asks, eval_leads, print_leads}
use Rattle.mw_commands.proofs.FlatLogged.{by_settling}

-- ---- words

-- of the words only the fourth is SWITCH
switch_named : (s : Name) → event_word_among event_words s ≡ Some Switch → same_name (named "SWITCH") s ≡ true
switch_named s h = go (same_name (named "VERIFY") s) (same_name (named "DEFINE") s) (same_name (named "SKOLEM") s) (same_name (named "SWITCH") s) (same_name (named "EVAL") s) (same_name (named "PRINT") s) (same_name (named "DEFINE-ALL") s) (same_name (named "PROFILE") s) h
  where
    go : (a b c d e f g i : Bool) → cond a (Some Verify) (cond b (Some Define) (cond c (Some Skolem) (cond d (Some Switch) (cond e (Some Eval) (cond f (Some Print) (cond g (Some DefineAll) (cond i (Some SetProfile) None))))))) ≡ Some Switch → d ≡ true
    go true b c d e f g i h = cc
    go false true c d e f g i h = cc
    go false false true d e f g i h = cc
    go false false false true e f g i h = refl
    go false false false false true f g i h = cc
    go false false false false false true g i h = cc
    go false false false false false false true i h = cc
    go false false false false false false false true h = cc
    go false false false false false false false false h = cc

-- what has a word begins with its name
named_by : (s : Name) (r : Object) (o : Option EventWord) (w : EventWord) → that (λ w. has_members (member_count w) (Pair (Symbol s) r)) o ≡ Some w → o ≡ Some w
named_by s r None w h = cc
named_by s r (Some v) w h = (when_some (has_members (member_count v) (Pair (Symbol s) r)) (Some v) w h).1

switch_begins : (e : Object) → event_word e ≡ Some Switch → begins_with "SWITCH" e ≡ true
switch_begins (Natural n) h = cc
switch_begins (Symbol s) h = cc
switch_begins (Pair (Natural n) r) h = cc
switch_begins (Pair (Pair a b) r) h = cc
switch_begins (Pair (Symbol s) r) h = same_name-from s (named "SWITCH") (sym (same_name-eq (named "SWITCH") s (switch_named s (named_by s r (event_word_among event_words s) Switch h))))

-- no event is a step
pub no_step : (e : Object) (w : EventWord) → event_word e ≡ Some w → is_step e ≡ false
no_step (Natural n) w h = refl
no_step (Symbol s) w h = refl
no_step (Pair (Natural n) r) w h = refl
no_step (Pair (Pair a b) r) w h = refl
no_step (Pair (Symbol s) r) w h = false_from_ne_true (same_name s (named "STEP")) other
  where
    other : same_name s (named "STEP") ≡ true → ⊥
    other e =
        let none : event_word_among event_words s ≡ None = ap (event_word_among event_words) (same_name-eq s (named "STEP") e) in
        let some = named_by s r (event_word_among event_words s) w h in
        let both : None ≡ Some w = sym none ∙ some in
        cc

-- ---- theories

module _ (t : Theory) (N : ℕ) (e : Object) where
  settled_next : (ps : Object) (d : Demand) (s : Satisfied judged_as t N ps d) → settled judged_as t N ps d ≡ accept s.next
  unfolding must unless
  settled_next ps d s =
      ap (settled judged_as t N ps) s.wants
      ∙ (ap (λ b. must t COUNT b (unless t (each_judged judged_as t N s.wanted ps) (accept s.next))) s.count ∙ ap (λ o. unless t o (accept s.next)) s.judged)

  in_range : is_accepted (happens t N e).0 ≡ true → is_out_of_range e ≡ false
  in_range h = accepted_in_range judged_as t N e (ap (λ z. is_accepted z.0) (as_before t N e) ∙ h)

  -- an accepted event of a word that a log has leads to a theory with the built-in checker
  pub record Logged (w : EventWord) : Type 0 where
    pub next : Theory
    pub accepts : happens t N e ≡ accept next
    pub built_in : next.checker ≡ None

  pub accepted_logged : (w : EventWord) → t.checker ≡ None → event_word e ≡ Some w → is_logged_word (Some w) ≡ true → is_accepted (happens t N e).0 ≡ true → Logged w
  accepted_logged w c k l h =
      let settles = happens_as t N e w (in_range h) k ∙ by_settling t N c w e l in
      let s = satisfied judged_as t N (proofs_of w e) (demand w t e) (ap (λ z. is_accepted z.0) (sym settles) ∙ h) in
      record {
        next = s.next;
        accepts = settles ∙ settled_next (proofs_of w e) (demand w t e) s;
        built_in = subst (Asks (λ Fs u. u.checker ≡ None)) s.wants (asks (λ u. u.checker ≡ None) t c (λ B. c) (λ F. c) refl w e);
      }

  -- any other but SWITCH leaves the theory
  idle_word : (o : Option EventWord) → event_word e ≡ o → begins_with "SWITCH" e ≡ false → is_logged_word o ≡ false → is_out_of_range e ≡ false → (happens t N e).1 ≡ t
  idle_word None k b l r = ap (λ z. z.1) (sym (as_before t N e) ∙ without_word judged_as t N e r k)
  idle_word (Some Switch) k b l r = absurd (true≢false (sym (switch_begins e k) ∙ b))
  idle_word (Some Eval) k b l r = ap (λ z. z.1) (happens_as t N e Eval r k) ∙ (eval_leads (λ u. u ≡ t) t refl N e).there
  idle_word (Some Print) k b l r = ap (λ z. z.1) (happens_as t N e Print r k) ∙ (print_leads (λ u. u ≡ t) t refl e).there
  idle_word (Some Verify) k b l r = cc
  idle_word (Some Define) k b l r = cc
  idle_word (Some DefineAll) k b l r = cc
  idle_word (Some Skolem) k b l r = cc
  idle_word (Some SetProfile) k b l r = cc

  pub left_out : (is_accepted (happens t N e).0 && begins_with "SWITCH" e) ≡ false → (is_accepted (happens t N e).0 && is_logged_word (event_word e)) ≡ false → (happens t N e).1 ≡ t
  left_out b l = go (happens t N e).0 refl b l
    where
      go : (f : Fate) → (happens t N e).0 ≡ f → (is_accepted f && begins_with "SWITCH" e) ≡ false → (is_accepted f && is_logged_word (event_word e)) ≡ false → (happens t N e).1 ≡ t
      go (Refused r) h b l = unchanged t N e r h
      go (Accepted v) h b l = idle_word (event_word e) refl b l (in_range (ap is_accepted h))
