-- What an event comes to, whoever judges the proofs, once its range and its word are known; and what was found where it is accepted.
use Rattle.std.proofs.Common.{◌≡◌, ℕ, Bool, true, false, not, List, [], ◌∷◌, length, Option, Some, None, refl, ap, ap₂, ◌∙◌}
use Rattle.mw_model.specs.Terms.Object.{Object, car, cdr, has_members}
use Rattle.mw_model.specs.Terms.Term.{Formula}
use Rattle.mw_model.specs.Terms.Reading.{when}
use Rattle.mw_model.specs.Events.Theory.{Theory}
use Rattle.mw_model.specs.Events.Refusal.{Refusal, RANGE, EVENT, COUNT, Fate, refuse, accept, need, must, unless}
use Rattle.std.specs.Option.{option_or}
use Rattle.mw_model.specs.Events.Fate.{EventWord, Verify, Define, Skolem, Switch, Eval, Print, DefineAll, SetProfile, event_word, is_out_of_range}
use Rattle.mw_model.specs.Events.Demand.{Demand, Denied, Wants, demand, proofs_of, Judge, each_judged, settled, happens_by_under, happens_under}
use Rattle.mw_model.specs.Reports.Report.{is_accepted}
use Rattle.mw_model.proofs.Demands.{need_same}

pub or_else_none : (o q : Option Refusal) → option_or o q ≡ None → (o ≡ None) × (q ≡ None)
or_else_none None q h = (refl, h)
or_else_none (Some r) q h = cc

module _ (J : Judge) (t : Theory) (N : ℕ) where
  by_known_word : (e : Object) (o : Option EventWord) → is_out_of_range e ≡ false → event_word e ≡ o → happens_under J t N e ≡ need t EVENT o (λ w. happens_by_under J w t N e)
  unfolding need
  by_known_word e o h k =
      ap (λ b. need t RANGE (when (not b) (Some e)) (λ x. need t EVENT (event_word x) (λ w. happens_by_under J w t N x))) h
      ∙ ap (λ v. need t EVENT v (λ w. happens_by_under J w t N e)) k

  pub under_word : (e : Object) (w : EventWord) → is_out_of_range e ≡ false → event_word e ≡ Some w → happens_under J t N e ≡ happens_by_under J w t N e
  unfolding need
  under_word e w h k = by_known_word e (Some w) h k

  pub without_word : (e : Object) → is_out_of_range e ≡ false → event_word e ≡ None → happens_under J t N e ≡ refuse t EVENT
  unfolding need
  without_word e h k = by_known_word e None h k

  range_found : (e : Object) (go : Object → Fate × Theory) (b : Bool) → is_accepted (need t RANGE (when (not b) (Some e)) go).0 ≡ true → b ≡ false
  unfolding need
  range_found e go true h = cc
  range_found e go false h = refl

  pub accepted_in_range : (e : Object) → is_accepted (happens_under J t N e).0 ≡ true → is_out_of_range e ≡ false
  accepted_in_range e h = range_found e _ (is_out_of_range e) h

  -- what is wanted was there, and as much
  pub record Satisfied (ps : Object) (d : Demand) : Type 0 where
    pub wanted : List Formula
    pub next : Theory
    pub wants : d ≡ Wants wanted next
    pub count : has_members (length wanted) ps ≡ true
    pub judged : each_judged J t N wanted ps ≡ None

  judged_found : (o : Option Refusal) (next : Theory) → is_accepted (unless t o (accept next)).0 ≡ true → o ≡ None
  unfolding unless
  judged_found None next h = refl
  judged_found (Some r) next h = cc

  count_found : (b : Bool) (rest : Fate × Theory) → is_accepted (must t COUNT b rest).0 ≡ true → (b ≡ true) × (is_accepted rest.0 ≡ true)
  unfolding must
  count_found true rest h = (refl, h)
  count_found false rest h = cc

  pub satisfied : (ps : Object) (d : Demand) → is_accepted (settled J t N ps d).0 ≡ true → Satisfied ps d
  satisfied ps (Denied r) h = cc
  satisfied ps (Wants Fs next) h =
      let c = count_found (has_members (length Fs) ps) (unless t (each_judged J t N Fs ps) (accept next)) h in
      record { wanted = Fs; next = next; wants = refl; count = c.0; judged = judged_found (each_judged J t N Fs ps) next c.1 }

-- judges who say the same at a theory settle its events alike
module _ (J K : Judge) (t : Theory) (N : ℕ) (alike : (F : Formula) (p : Object) → J t N F p ≡ K t N F p) where
  each_alike : (Fs : List Formula) (ps : Object) → each_judged J t N Fs ps ≡ each_judged K t N Fs ps
  each_alike [] ps = refl
  each_alike (F ∷ Fs) ps = ap₂ option_or (alike F (car ps)) (each_alike Fs (cdr ps))

  settled_alike : (ps : Object) (d : Demand) → settled J t N ps d ≡ settled K t N ps d
  settled_alike ps (Denied r) = refl
  settled_alike ps (Wants Fs next) = ap (λ o. must t COUNT (has_members (length Fs) ps) (unless t o (accept next))) (each_alike Fs ps)

  word_alike : (w : EventWord) (e : Object) → happens_by_under J w t N e ≡ happens_by_under K w t N e
  word_alike Verify e = settled_alike (proofs_of Verify e) (demand Verify t e)
  word_alike Define e = settled_alike (proofs_of Define e) (demand Define t e)
  word_alike DefineAll e = settled_alike (proofs_of DefineAll e) (demand DefineAll t e)
  word_alike Skolem e = settled_alike (proofs_of Skolem e) (demand Skolem t e)
  word_alike SetProfile e = settled_alike (proofs_of SetProfile e) (demand SetProfile t e)
  word_alike Switch e = refl
  word_alike Eval e = refl
  word_alike Print e = refl

  pub happen_alike : (e : Object) → happens_under J t N e ≡ happens_under K t N e
  happen_alike e = need_same t _ _ _ _ (λ x. need_same t _ _ _ _ (λ w. word_alike w x))
