-- What leaves each theory as it is, and the slice after a switch: all events that change the theory, up to the goal.
use Rattle.std.proofs.Common.{◌≡◌, ℕ, suc, ◌≤◌, Bool, true, false, ◌&&◌, ◌||◌, cond, leb, List, [], ◌∷◌, Some, None, inl, inr, refl, sym, ap, ◌∙◌, subst, arith}
use Rattle.std.proofs.lemmas.Bool.{cases_Bool, leb-true, leb-false}
use Rattle.mw_model.specs.Terms.Object.{Object, Natural, Symbol, symbol, same_object, second_of}
use Rattle.mw_model.specs.Terms.Reading.{when}
use Rattle.mw_model.specs.Values.Primitive.{One, Two}
use Rattle.mw_model.specs.Texts.Printing.{text_of}
use Rattle.mw_model.specs.Events.Theory.{Theory, initial}
use Rattle.mw_model.specs.Events.Refusal.{PROFILE, accept, need}
use Rattle.mw_model.specs.Events.Fate.{EventWord, Verify, Define, Skolem, Switch, Eval, Print, DefineAll, SetProfile, is_initial, begin_profile, profile, happens_by, happens}
use Rattle.mw_model.specs.Reports.Report.{is_accepted}
use Rattle.mw_model.proofs.Demands.{by_word}
use Rattle.mw_commands.specs.Commands.Slice.{event_at, is_idle}
use Rattle.mw_commands.proofs.LogAccepted.{happens_as}
use Rattle.mw_commands.proofs.EventParts.{HasWord, word_name, has_word}
use Rattle.mw_commands.proofs.EventAgain.{show_stays, eval_stays, accepted_word}
use Rattle.mw_commands.proofs.AllAccepted.{AllAccepted}
use Rattle.mw_commands.proofs.SliceWalk.{chosen, StandsAt, stands_first, stands_rest, beyond, none_chosen}

-- whether an event with a word is idle
abbrev idle_by : EventWord → Object → Bool
idle_by w x =
    same_object (Symbol (word_name w)) (symbol "EVAL") || (same_object (Symbol (word_name w)) (symbol "PRINT") || (same_object (Symbol (word_name w)) (symbol "PROFILE") && same_object x (Natural 1)))

idle_is : (e : Object) (w : EventWord) → HasWord e w → is_idle e ≡ idle_by w (second_of e)
idle_is e w h = ap (λ z. same_object z (symbol "EVAL") || (same_object z (symbol "PRINT") || (same_object z (symbol "PROFILE") && same_object (second_of e) (Natural 1)))) h.head

module _ (t : Theory) (N : ℕ) where
  first_stays : (e : Object) → same_object (second_of e) (Natural 1) ≡ true → (profile t e).1 ≡ t
  unfolding need
  first_stays e h = ap (λ b. (need t PROFILE (when (is_initial t) (cond b (Some One) (cond (same_object (second_of e) (Natural 2)) (Some Two) None))) (λ P. accept (begin_profile t P))).1) h ∙ go (is_initial t)
    where
      go : (b : Bool) → (need t PROFILE (when b (Some One)) (λ P. accept (begin_profile t P))).1 ≡ t
      go true = refl
      go false = refl

  word_stays : (e : Object) (w : EventWord) → idle_by w (second_of e) ≡ true → (happens_by w t N e).1 ≡ t
  word_stays e Eval h = eval_stays t N e
  word_stays e Print h = show_stays t (text_of (second_of e))
  word_stays e SetProfile h = first_stays e h
  word_stays e Verify h = cc
  word_stays e Define h = cc
  word_stays e DefineAll h = cc
  word_stays e Skolem h = cc
  word_stays e Switch h = cc

  -- an accepted event that is idle leaves the theory
  idle_stays : (e : Object) → is_accepted (happens t N e).0 ≡ true → is_idle e ≡ true → (happens t N e).1 ≡ t
  idle_stays e a h =
      let k = accepted_word t N e a in
      ap (λ z. z.1) (happens_as t N e k.word k.in_range k.is_word ∙ by_word k.word t N e) ∙ word_stays e k.word (sym (idle_is e k.word (has_word e k.word k.is_word)) ∙ h)

module _ (N : ℕ) (es : List Object) (goal : ℕ) (S : ℕ → Bool) (bounded : (j : ℕ) → S j ≡ true → j ≤ goal) (idle : (j : ℕ) → j ≤ goal → S j ≡ false → is_idle (event_at es j) ≡ true) where
  abbrev Changing : List Object → ℕ → Type 0
  Changing rest i = (t : Theory) → StandsAt es i rest → AllAccepted N t rest → AllAccepted N t (chosen S i rest)

  one_more : (i : ℕ) (e : Object) (rest : List Object) → i ≤ goal → Changing rest (suc i) → Changing (e ∷ rest) i
  one_more i e rest low more t s a = elim (cases_Bool (S i)) as (λ o. AllAccepted N t (chosen S i (e ∷ rest))) [ inl k ↦ kept k | inr k ↦ left k ]
    where
      kept : S i ≡ true → AllAccepted N t (chosen S i (e ∷ rest))
      kept k = subst (λ b. AllAccepted N t (cond b (e ∷ chosen S (suc i) rest) (chosen S (suc i) rest))) (sym k) (a.0, more (happens t N e).1 (stands_rest es i e rest s) a.1)

      left : S i ≡ false → AllAccepted N t (chosen S i (e ∷ rest))
      left k =
          let stays = idle_stays t N e a.0 (ap is_idle (sym (stands_first es i e rest s)) ∙ idle i low k) in
          subst (λ b. AllAccepted N t (cond b (e ∷ chosen S (suc i) rest) (chosen S (suc i) rest))) (sym k) (more t (stands_rest es i e rest s) (subst (λ z. AllAccepted N z rest) stays a.1))

  changing_from : (rest : List Object) (i : ℕ) → Changing rest i
  changing_from [] i t s a = tt
  changing_from (e ∷ rest) i t s a =
      elim (cases_Bool (leb i goal)) as (λ o. AllAccepted N t (chosen S i (e ∷ rest))) [ inl l ↦ one_more i e rest (leb-true i goal l) (changing_from rest (suc i)) t s a | inr g ↦ none_chosen N S i (e ∷ rest) t (beyond goal S bounded i (leb-false i goal g)) ]

  pub changing_accepted : AllAccepted N (initial One) es → AllAccepted N (initial One) (chosen S 0 es)
  changing_accepted a = changing_from es 0 (initial One) (λ k. ap (event_at es) (omega arith)) a
