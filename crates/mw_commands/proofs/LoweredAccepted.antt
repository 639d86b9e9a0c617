-- An event that is accepted where derivations are as good as proofs can be written with proofs, and what is so written comes to the same.
use Rattle.std.proofs.Common.{◌≡◌, ℕ, suc, Bool, true, false, cond, List, [], ◌∷◌, length, Option, Some, None, inl, inr, refl, sym, ap, ◌∙◌, subst}
use Rattle.std.proofs.lemmas.Bool.{true≢false}
use Rattle.mw_model.specs.Terms.Object.{Name, Object, Natural, Symbol, Pair, same_object, NIL, second_of, has_members}
use Rattle.mw_model.specs.Terms.Term.{Formula, formula_object}
use Rattle.mw_model.specs.Values.Definition.{arity_table}
use Rattle.mw_model.specs.Values.Truth.{Each}
use Rattle.mw_model.specs.Laws.RulesInduction.{is_list_object}
use Rattle.mw_model.specs.Events.Theory.{Theory}
use Rattle.mw_model.specs.Events.Refusal.{CONCLUSION, PROOF}
use Rattle.mw_model.specs.Events.Checking.{no_unless}
use Rattle.mw_model.specs.Events.Fate.{EventWord, Verify, Define, Skolem, Switch, Eval, Print, DefineAll, SetProfile, event_word, happens}
use Rattle.mw_model.specs.Events.Demand.{demand, proofs_of, with_proofs, each_judged, settled, happens_by_under, happens_under}
use Rattle.mw_model.specs.Reports.Report.{is_accepted}
use Rattle.mw_model.specs.Laws.Rewriting.{TurnsAt, TurnsOrStays, EachTurnsOrStays, IsRewrittenList, IsRewrittenBy, IsRewritten}
use Rattle.mw_commands.specs.Commands.Transition.{course_from, is_acceptance}
use Rattle.mw_commands.specs.Commands.Derivation.{Turns}
use Rattle.mw_commands.specs.Commands.DerivationTest.{derive, derived_by, derived_as}
use Rattle.mw_commands.specs.Commands.Lowering.{EachTurns, IsLoweredBy, IsLowered}
use Rattle.mw_commands.proofs.Settling.{or_else_none, under_word, accepted_in_range, satisfied}
use Rattle.mw_commands.proofs.FirstAxioms.{HasFirst, first_stay}
use Rattle.mw_commands.proofs.LoweredEvent.{listed, derived_turns, rewritten_same}

-- where each turns, each turns or stays
turns_or_stays : (t : Theory) (ps qs : Object) → EachTurns t ps qs → EachTurnsOrStays Turns t ps qs
turns_or_stays t (Natural n) qs h = h
turns_or_stays t (Symbol s) qs h = h
turns_or_stays t (Pair p ps) qs h = (h.0, h.1, h.2, inl h.3, turns_or_stays t ps h.1 h.4)

-- ---- the built-in checker

module _ (t : Theory) (N : ℕ) (built_in : t.checker ≡ None) (has : HasFirst t) where
  verdict_derives : (o : Option Formula) → no_unless PROOF o ≡ None → (F : Formula) × (o ≡ Some F)
  verdict_derives None h = cc
  verdict_derives (Some F) h = (F, refl)

  accepted_turns : (F : Formula) (p : Object) → derived_as t N F p ≡ None → (q : Object) × TurnsAt Turns t p q
  accepted_turns F p h = go (same_object (second_of p) (formula_object F)) h
    where
      go : (b : Bool) → cond b (derived_by t.checker t p N) (Some CONCLUSION) ≡ None → (q : Object) × TurnsAt Turns t p q
      go true k =
          let d = verdict_derives (derive t.axioms t.theorems (arity_table t.definitions) t.definitions.profile p) (ap (λ f. derived_by f t p N) (sym built_in) ∙ k) in
          derived_turns t N built_in has p d.0 d.1
      go false k = cc

  turn_chosen : (F : Formula) (p q : Object) → derived_as t N F p ≡ None → TurnsOrStays Turns t p q → TurnsAt Turns t p q
  turn_chosen F p q h (inl k) = k
  turn_chosen F p q h (inr k) = let r = accepted_turns F p h in absurd (k.0 r.0 r.1)

  all_turn : (Fs : List Formula) (ps : Object) → has_members (length Fs) ps ≡ true → each_judged derived_as t N Fs ps ≡ None → (qs : Object) × EachTurns t ps qs
  all_turn Fs (Natural n) m h = (Natural n, refl)
  all_turn Fs (Symbol s) m h = (Symbol s, refl)
  all_turn [] (Pair p ps) m h = cc
  all_turn (F ∷ Fs) (Pair p ps) m h =
      let j = or_else_none (derived_as t N F p) (each_judged derived_as t N Fs ps) h in
      let q = accepted_turns F p j.0 in
      let qs = all_turn Fs ps m j.1 in
      (Pair q.0 qs.0, (q.0, qs.0, refl, q.1, qs.1))

  all_chosen : (Fs : List Formula) (ps qs : Object) → has_members (length Fs) ps ≡ true → each_judged derived_as t N Fs ps ≡ None → EachTurnsOrStays Turns t ps qs → EachTurns t ps qs
  all_chosen Fs (Natural n) qs m h k = k
  all_chosen Fs (Symbol s) qs m h k = k
  all_chosen [] (Pair p ps) qs m h k = cc
  all_chosen (F ∷ Fs) (Pair p ps) qs m h k =
      let j = or_else_none (derived_as t N F p) (each_judged derived_as t N Fs ps) h in (k.0, k.1, k.2, turn_chosen F p k.0 j.0 k.3, all_chosen Fs ps k.1 m j.1 k.4)

  -- what is known of the proofs of an accepted event
  record Good (ps : Object) : Type 0 where
    list : is_list_object ps ≡ true
    turn : (qs : Object) × EachTurns t ps qs
    chosen : (qs : Object) → EachTurnsOrStays Turns t ps qs → EachTurns t ps qs

  none_good : Good NIL
  none_good = record { list = refl; turn = (NIL, refl); chosen = λ qs h. h }

  settled_good : (w : EventWord) (e : Object) → is_accepted (settled derived_as t N (proofs_of w e) (demand w t e)).0 ≡ true → Good (proofs_of w e)
  settled_good w e h =
      let s = satisfied derived_as t N (proofs_of w e) (demand w t e) h in
      record { list = listed (length s.wanted) (proofs_of w e) s.count; turn = all_turn s.wanted (proofs_of w e) s.count s.judged; chosen = λ qs. all_chosen s.wanted (proofs_of w e) qs s.count s.judged }

  word_good : (w : EventWord) (e : Object) → is_accepted (happens_by_under derived_as w t N e).0 ≡ true → Good (proofs_of w e)
  word_good Verify e h = settled_good Verify e h
  word_good Define e h = settled_good Define e h
  word_good DefineAll e h = settled_good DefineAll e h
  word_good Skolem e h = none_good
  word_good SetProfile e h = none_good
  word_good Switch e h = none_good
  word_good Eval e h = none_good
  word_good Print e h = none_good

  event_good : (e : Object) (w : EventWord) → event_word e ≡ Some w → is_accepted (happens_under derived_as t N e).0 ≡ true → Good (proofs_of w e)
  event_good e w k h = word_good w e (ap (λ z. is_accepted z.0) (sym (under_word derived_as t N e w (accepted_in_range derived_as t N e h) k)) ∙ h)

  list_chosen : (e lowered : Object) (w : EventWord) (b : Bool) → Good (proofs_of w e) → is_list_object (proofs_of w e) ≡ b → IsRewrittenList b Turns t w e lowered → IsLoweredBy None (Some w) t e lowered
  list_chosen e lowered w true g l h = (h.0, g.chosen h.0 h.1, h.2)
  list_chosen e lowered w false g l h = absurd (true≢false (sym g.list ∙ l))

-- ---- any checker

module _ (t : Theory) (N : ℕ) (has : HasFirst t) (e : Object) (accepted : is_accepted (happens_under derived_as t N e).0 ≡ true) where
  -- what it may be written as
  pub lowering_exists : (lowered : Object) × IsLoweredBy t.checker (event_word e) t e lowered
  lowering_exists = go t.checker refl (event_word e) refl
    where
      go : (f : Option Name) → t.checker ≡ f → (o : Option EventWord) → event_word e ≡ o → (lowered : Object) × IsLoweredBy f o t e lowered
      go (Some f) c o k = (e, refl)
      go None c None k = (e, refl)
      go None c (Some w) k = let g = (event_good t N c has e w k accepted).turn in (with_proofs w e g.0, (g.0, g.1, refl))

  pub rewritten_is_lowered : (lowered : Object) → IsRewritten Turns t e lowered → IsLoweredBy t.checker (event_word e) t e lowered
  rewritten_is_lowered lowered h = go t.checker refl (event_word e) refl h
    where
      go : (f : Option Name) → t.checker ≡ f → (o : Option EventWord) → event_word e ≡ o → IsRewrittenBy f o Turns t e lowered → IsLoweredBy f o t e lowered
      go (Some f) c o k r = r
      go None c None k r = r
      go None c (Some w) k r = list_chosen t N c has e lowered w (is_list_object (proofs_of w e)) (event_good t N c has e w k accepted) refl r

  lowered_is_rewritten : (lowered : Object) → IsLoweredBy t.checker (event_word e) t e lowered → IsRewritten Turns t e lowered
  lowered_is_rewritten lowered h = go t.checker refl (event_word e) refl h
    where
      go : (f : Option Name) → t.checker ≡ f → (o : Option EventWord) → event_word e ≡ o → IsLoweredBy f o t e lowered → IsRewrittenBy f o Turns t e lowered
      go (Some f) c o k r = r
      go None c None k r = r
      go None c (Some w) k r =
          subst (λ b. IsRewrittenList b Turns t w e lowered) (sym (event_good t N c has e w k accepted).list) (r.0, turns_or_stays t (proofs_of w e) r.0 r.1, r.2)

  pub lowered_happens : (lowered : Object) → IsLoweredBy t.checker (event_word e) t e lowered → happens t N lowered ≡ happens_under derived_as t N e
  lowered_happens lowered h = rewritten_same t N e lowered has (accepted_in_range derived_as t N e accepted) (lowered_is_rewritten lowered h)

-- along a course
pub each_lowering : (N k : ℕ) (t : Theory) (es : List Object) → HasFirst t → Each (λ s. is_acceptance s ≡ true → (lowered : Object) × IsLowered s lowered) (course_from (λ u e. happens_under derived_as u N e) k t es)
each_lowering N k t [] has = tt
each_lowering N k t (e ∷ es) has = (λ h. lowering_exists t N has e h, each_lowering N (suc k) (happens_under derived_as t N e).1 es (first_stay t has derived_as N e))
