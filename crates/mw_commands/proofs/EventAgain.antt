-- An event that the built-in checker accepts at a theory, accepted at another one with the same profile that has what the event uses.
use Rattle.std.proofs.Common.{◌≡◌, ℕ, Bool, true, false, ltb, cond, List, [], ◌∷◌, length, Option, Some, None, refl, sym, ap, ap₂, ◌∙◌, subst}
use Rattle.std.proofs.lemmas.Bool.{false≢true}
use Rattle.mw_model.specs.Terms.Object.{Object, Natural, Symbol, Pair, symbol, same_object, second_of, has_members, Member}
use Rattle.mw_model.specs.Terms.Term.{Formula, formula_object}
use Rattle.mw_model.specs.Values.Primitive.{Profile}
use Rattle.mw_model.specs.Values.Definition.{Block, arities}
use Rattle.mw_model.specs.Values.Truth.{Each}
use Rattle.mw_model.specs.Proofs.Judgment.{judge}
use Rattle.mw_model.specs.Events.Evaluation.{Outcome, Value, Steps, Overflow, Witness, evaluate}
use Rattle.mw_model.specs.Texts.Printing.{text_of}
use Rattle.mw_model.specs.Events.Theory.{Theory, axioms_of}
use Rattle.mw_model.specs.Events.Refusal.{Refusal, COUNT, CONCLUSION, PROOF, LONG, Fate, Accepted, refuse, accept, need, must, unless}
use Rattle.mw_model.specs.Events.Checking.{no_unless, judged, judged_as}
use Rattle.std.specs.Option.{option_or}
use Rattle.mw_model.specs.Events.Fate.{EventWord, Verify, Define, Skolem, Switch, Eval, Print, DefineAll, SetProfile, event_word, longest, show, show_outcome, eval, is_out_of_range, happens}
use Rattle.mw_model.specs.Events.Demand.{Wants, demand, proofs_of, each_judged, settled, happens_by_under, happens_under}
use Rattle.mw_model.specs.Reports.Report.{is_accepted}
use Rattle.mw_model.proofs.Judging.{judge_good, good_judge}
use Rattle.mw_model.proofs.Demands.{as_before}
use Rattle.mw_commands.specs.Commands.Subproofs.{proofs_within, each_within}
use Rattle.mw_commands.specs.Commands.Slice.{begins_with, without_name, proofs_by_word}
use Rattle.mw_commands.proofs.Settling.{or_else_none, without_word, accepted_in_range, satisfied}
use Rattle.mw_commands.proofs.LogAccepted.{happens_as}
use Rattle.mw_commands.proofs.ProvedAgain.{NamesKnown, each_left, each_right, proved_again}
use Rattle.mw_commands.proofs.EventParts.{has_word, begins_as, proofs_are_within}
use Rattle.mw_commands.proofs.DefinedAgain.{Suits}
use Rattle.mw_commands.proofs.DemandAgain.{wanted_again}
use Rattle.mw_commands.proofs.Changes.{Change, Stays, changed, IsChange, plain}
use Rattle.mw_commands.proofs.Within.{Within, first_within, rest_within}

-- ---- what shows a text leaves the theory

module _ (t : Theory) where
  need_stays : {X : Type 0} (r : Refusal) (o : Option X) (go : X → Fate × Theory) → ((x : X) → (go x).1 ≡ t) → (need t r o go).1 ≡ t
  unfolding need
  need_stays r None go h = refl
  need_stays r (Some x) go h = h x

  pub show_stays : (text : List ℕ) → (show t text).1 ≡ t
  show_stays text = go (ltb longest (length text))
    where
      go : (b : Bool) → (cond b (refuse t LONG) (Accepted text, t)).1 ≡ t
      go true = refl
      go false = refl

  outcome_stays : (o : Outcome) → (show_outcome t o).1 ≡ t
  outcome_stays (Value v n) = show_stays (text_of v)
  outcome_stays Steps = refl
  outcome_stays Overflow = refl
  outcome_stays Witness = refl

  pub eval_stays : (N : ℕ) (e : Object) → (eval t N e).1 ≡ t
  eval_stays N e = need_stays _ _ _ (λ a. need_stays _ _ _ (λ c. outcome_stays (evaluate t.definitions N [] c)))

-- an accepted event is in range and has a word
pub record HasEventWord (e : Object) : Type 0 where
  pub in_range : is_out_of_range e ≡ false
  pub word : EventWord
  pub is_word : event_word e ≡ Some word

pub accepted_word : (t : Theory) (N : ℕ) (e : Object) → is_accepted (happens t N e).0 ≡ true → HasEventWord e
accepted_word t N e h = go (event_word e) refl
  where
    under : is_accepted (happens_under judged_as t N e).0 ≡ true
    under = ap (λ z. is_accepted z.0) (as_before t N e) ∙ h

    in_range : is_out_of_range e ≡ false
    in_range = accepted_in_range judged_as t N e under

    go : (o : Option EventWord) → event_word e ≡ o → HasEventWord e
    go (Some w) k = record { in_range = in_range; word = w; is_word = k }
    go None k = absurd (false≢true (ap (λ z. is_accepted z.0) (sym (without_word judged_as t N e in_range k)) ∙ under))

module _ (P : Profile) (D : List Block) (th : Object) (e : Object) where
  -- another theory has what the event uses
  pub record HasUsed (E : List Block) (others : Object) : Type 0 where
    pub suits : Suits (plain P D th) (plain P E others) e
    pub axioms_there : (x : Object) → Within x (without_name e) → Member x (axioms_of P D) → Member x (axioms_of P E)
    pub names_known : Each (NamesKnown (arities P D) (arities P E) P (axioms_of P D) th (axioms_of P E) others (without_name e) suits.agree axioms_there) (each_within (proofs_by_word (event_word e) e))

module _ (P : Profile) (D : List Block) (th : Object) (N : ℕ) (e : Object) where
  -- ---- proofs

  module _ (E : List Block) (others : Object) (has : HasUsed P D th e E others) where
    abbrev Known : Object → Type 0
    Known p = NamesKnown (arities P D) (arities P E) P (axioms_of P D) th (axioms_of P E) others (without_name e) has.suits.agree has.axioms_there p

    verdict_again : (p : Object) → Within p (without_name e) → Each Known (proofs_within p) → judged (plain P D th) p N ≡ None → judged (plain P E others) p N ≡ None
    verdict_again p w k h = go (judge (axioms_of P D) th (arities P D) P p) refl h
      where
        go : (o : Option Formula) → judge (axioms_of P D) th (arities P D) P p ≡ o → no_unless PROOF o ≡ None → no_unless PROOF (judge (axioms_of P E) others (arities P E) P p) ≡ None
        go None j i = cc
        go (Some F) j i =
            let g = judge_good (axioms_of P D) th (arities P D) P p F j in
            let again = proved_again (arities P D) (arities P E) P (axioms_of P D) th (axioms_of P E) others (without_name e) has.suits.agree has.axioms_there p F w k g in
            ap (no_unless PROOF) (good_judge (axioms_of P E) others (arities P E) P p F again).1

    judged_again : (F : Formula) (p : Object) → Within p (without_name e) → Each Known (proofs_within p) → judged_as (plain P D th) N F p ≡ None → judged_as (plain P E others) N F p ≡ None
    judged_again F p w k h = go (same_object (second_of p) (formula_object F)) h
      where
        go : (b : Bool) → cond b (judged (plain P D th) p N) (Some CONCLUSION) ≡ None → cond b (judged (plain P E others) p N) (Some CONCLUSION) ≡ None
        go true i = verdict_again p w k i
        go false i = cc

    each_again : (Fs : List Formula) (ps : Object) → Within ps (without_name e) → Each Known (each_within ps) → has_members (length Fs) ps ≡ true → each_judged judged_as (plain P D th) N Fs ps ≡ None → each_judged judged_as (plain P E others) N Fs ps ≡ None
    each_again [] ps w k m h = refl
    each_again (F ∷ Fs) (Pair p ps) w k m h =
        let q = or_else_none (judged_as (plain P D th) N F p) (each_judged judged_as (plain P D th) N Fs ps) h in
        ap₂ option_or (judged_again F p (λ x i. w x (first_within p ps x i)) (each_left Known (proofs_within p) (each_within ps) k) q.0)
        (each_again Fs ps (λ x i. w x (rest_within p ps x i)) (each_right Known (proofs_within p) (each_within ps) k) m q.1)
    each_again (F ∷ Fs) (Natural n) w k m h = cc
    each_again (F ∷ Fs) (Symbol s) w k m h = cc

  -- ---- the event

  -- what is known of an accepted event that is no SWITCH
  pub record EventFound : Type 0 where
    pub word : EventWord
    pub is_word : event_word e ≡ Some word
    pub change : Change
    pub leads : (happens (plain P D th) N e).1 ≡ changed change (plain P D th)
    pub is_change : IsChange (plain P D th) e change
    pub again : (E : List Block) (others : Object) → HasUsed P D th e E others → begins_with "EVAL" e ≡ false → begins_with "PRINT" e ≡ false → happens (plain P E others) N e ≡ accept (changed change (plain P E others))

  settles_to : (t : Theory) (ps : Object) (Fs : List Formula) (next : Theory) → has_members (length Fs) ps ≡ true → each_judged judged_as t N Fs ps ≡ None → settled judged_as t N ps (Wants Fs next) ≡ accept next
  unfolding must unless
  settles_to t ps Fs next c j = ap (λ b. must t COUNT b (unless t (each_judged judged_as t N Fs ps) (accept next))) c ∙ ap (λ o. unless t o (accept next)) j

  module _ (in_range : is_out_of_range e ≡ false) where
    -- an event with proofs
    settled_found : (w : EventWord) → event_word e ≡ Some w → ((t : Theory) → happens_by_under judged_as w t N e ≡ settled judged_as t N (proofs_of w e) (demand w t e)) → is_accepted (happens (plain P D th) N e).0 ≡ true → EventFound
    settled_found w k by h =
        let t = plain P D th in
        let ps = proofs_of w e in
        let has = has_word e w k in
        let is = happens_as t N e w in_range k ∙ by t in
        let s = satisfied judged_as t N ps (demand w t e) (ap (λ z. is_accepted z.0) (sym is) ∙ h) in
        let a = wanted_again t w e has s.wanted s.next s.wants in
        record {
          word = w;
          is_word = k;
          change = a.change;
          leads = ap (λ z. z.1) (is ∙ (ap (settled judged_as t N ps) s.wants ∙ settles_to t ps s.wanted s.next s.count s.judged)) ∙ a.leads;
          is_change = a.is_change;
          again = λ E others used no_eval no_print.
              let u = plain P E others in
              let known = subst (λ o. Each (Known E others used) (each_within (proofs_by_word o e))) k used.names_known in
              happens_as u N e w in_range k
              ∙ (by u
              ∙ (ap (settled judged_as u N ps) (a.again u used.suits) ∙ settles_to u ps s.wanted (changed a.change u) s.count (each_again E others used s.wanted ps (proofs_are_within w e has) known s.count s.judged)));
        }

    -- an event that shows a text
    shown_found : (w : EventWord) → event_word e ≡ Some w → (happens_by_under judged_as w (plain P D th) N e).1 ≡ plain P D th → begins_with "VERIFY" e ≡ false → (begins_with "EVAL" e ≡ false → begins_with "PRINT" e ≡ false → ⊥) → EventFound
    shown_found w k stays v none = record { word = w; is_word = k; change = Stays; leads = ap (λ z. z.1) (happens_as (plain P D th) N e w in_range k) ∙ stays; is_change = v; again = λ E others used no_eval no_print. absurd (none no_eval no_print) }

    word_found : (w : EventWord) → event_word e ≡ Some w → begins_with "SWITCH" e ≡ false → is_accepted (happens (plain P D th) N e).0 ≡ true → EventFound
    word_found Verify k s h = settled_found Verify k (λ t. refl) h
    word_found Define k s h = settled_found Define k (λ t. refl) h
    word_found DefineAll k s h = settled_found DefineAll k (λ t. refl) h
    word_found Skolem k s h = settled_found Skolem k (λ t. refl) h
    word_found SetProfile k s h = settled_found SetProfile k (λ t. refl) h
    word_found Switch k s h = absurd (false≢true (sym s ∙ begins_as e Switch (has_word e Switch k) (symbol "SWITCH")))
    word_found Eval k s h =
        let has = has_word e Eval k in shown_found Eval k (eval_stays (plain P D th) N e) (begins_as e Eval has (symbol "VERIFY")) (λ no_eval no_print. false≢true (sym no_eval ∙ begins_as e Eval has (symbol "EVAL")))
    word_found Print k s h =
        let has = has_word e Print k in
        shown_found Print k (show_stays (plain P D th) (text_of (second_of e))) (begins_as e Print has (symbol "VERIFY")) (λ no_eval no_print. false≢true (sym no_print ∙ begins_as e Print has (symbol "PRINT")))

  pub event_found : begins_with "SWITCH" e ≡ false → is_accepted (happens (plain P D th) N e).0 ≡ true → EventFound
  event_found s h = let k = accepted_word (plain P D th) N e h in word_found k.in_range k.word k.is_word s h
