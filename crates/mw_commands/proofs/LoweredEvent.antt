-- An event with its derivations turned to proofs comes to the same as the event where derivations are as good as proofs.
use Rattle.std.proofs.Common.{◌≡◌, ℕ, zero, suc, Bool, true, false, cond, List, [], ◌∷◌, length, Option, Some, None, inl, inr, refl, sym, ap, ap₂, ◌∙◌}
use Rattle.std.proofs.lemmas.Bool.{true≢false}
use Rattle.mw_model.specs.Terms.Object.{Name, Object, Natural, Symbol, Pair, same_object, NIL, car, second_of, fourth_of, has_members, list1}
use Rattle.mw_model.specs.Terms.Term.{Formula, formula_object, ArityTable}
use Rattle.mw_model.specs.Values.Primitive.{Profile}
use Rattle.mw_model.specs.Values.Definition.{arity_table}
use Rattle.mw_model.specs.Proofs.Judgment.{judge}
use Rattle.mw_model.specs.Laws.RulesInduction.{is_list_object}
use Rattle.mw_model.specs.Events.Theory.{Theory}
use Rattle.mw_model.specs.Events.Refusal.{CONCLUSION, PROOF, COUNT, accept, must, unless}
use Rattle.mw_model.specs.Events.Checking.{no_unless, judged_by, judged_as}
use Rattle.std.specs.Option.{option_or}
use Rattle.mw_model.specs.Events.Fate.{EventWord, Verify, Define, Skolem, Switch, Eval, Print, DefineAll, SetProfile, event_word, is_out_of_range, happens}
use Rattle.mw_model.specs.Events.Demand.{Demand, Denied, Wants, demand, proofs_of, with_proofs, each_judged, settled, happens_by_under, happens_under}
use Rattle.mw_model.specs.Laws.Rewriting.{TurnsAt, TurnsOrStays, EachTurnsOrStays, IsRewrittenList, IsRewrittenBy, IsRewritten}
use Rattle.mw_model.proofs.Judging.{judge_good, good_judge}
use Rattle.mw_model.proofs.Demands.{as_before}
use Rattle.mw_commands.specs.Commands.Derivation.{IsDerivation, derivation, Turns}
use Rattle.mw_commands.specs.Commands.DerivationTest.{derive, derived_by, derived_as}
use Rattle.mw_commands.proofs.Deriving.{derive_good, good_derive, proof_derives}
use Rattle.mw_commands.proofs.Settling.{under_word, without_word, happen_alike}
use Rattle.mw_commands.proofs.Logs.{car_in_range, cdr_in_range, fourth_in_range, sixth_in_range, third_in_range, pair_in_range}
use Rattle.mw_commands.proofs.LogAccepted.{second_is, conclusion_is, same_demand, same_word, stays_in_range, happens_as}
use Rattle.mw_commands.proofs.Lowered.{derivation_turns}
use Rattle.mw_commands.proofs.FirstAxioms.{HasFirst}

derivation_concludes : (ax th : Object) (A : ArityTable) (P : Profile) (p : Object) (F : Formula) → IsDerivation ax th A P p F → second_of p ≡ formula_object F
derivation_concludes ax th A P p F (derivation q ps x r G Fs mem i gs row) = second_is ax th A P q _ (formula_object G) ps x mem

-- ---- lists in which each member is turned, or stays

module _ (t : Theory) where
  abbrev Turned : Object → Object → Type 0
  Turned ps qs = EachTurnsOrStays Turns t ps qs

  same_count : (n : ℕ) (ps qs : Object) → Turned ps qs → has_members n qs ≡ has_members n ps
  same_count n (Natural k) qs h = ap (has_members n) h
  same_count n (Symbol s) qs h = ap (has_members n) h
  same_count zero (Pair p ps) qs h = ap (has_members zero) h.2
  same_count (suc n) (Pair p ps) qs h = ap (has_members (suc n)) h.2 ∙ same_count n ps h.1 h.4

  turned_in_range : (p q : Object) → TurnsOrStays Turns t p q → is_out_of_range p ≡ false → is_out_of_range q ≡ false
  turned_in_range p q (inl h) k = h.in_range k
  turned_in_range p q (inr h) k = ap is_out_of_range h.1 ∙ k

  list_in_range : (ps qs : Object) → Turned ps qs → is_out_of_range ps ≡ false → is_out_of_range qs ≡ false
  list_in_range (Natural k) qs h r = ap is_out_of_range h ∙ r
  list_in_range (Symbol s) qs h r = ap is_out_of_range h
  list_in_range (Pair p ps) qs h r =
      ap is_out_of_range h.2 ∙ pair_in_range h.0 h.1 (turned_in_range p h.0 h.3 (car_in_range (Pair p ps) r)) (list_in_range ps h.1 h.4 (cdr_in_range (Pair p ps) r))

  proofs_in_range : (w : EventWord) (e : Object) → is_out_of_range e ≡ false → is_out_of_range (proofs_of w e) ≡ false
  proofs_in_range Verify e h = pair_in_range (fourth_of e) NIL (fourth_in_range e h) refl
  proofs_in_range Define e h = sixth_in_range e h
  proofs_in_range DefineAll e h = third_in_range e h
  proofs_in_range Skolem e h = refl
  proofs_in_range SetProfile e h = refl
  proofs_in_range Switch e h = refl
  proofs_in_range Eval e h = refl
  proofs_in_range Print e h = refl

  pub proofs_put : (w : EventWord) (e qs : Object) → Turned (proofs_of w e) qs → proofs_of w (with_proofs w e qs) ≡ qs
  proofs_put Verify e qs h = ap (λ z. list1 (car z)) h.2 ∙ (ap (Pair h.0) (sym h.4) ∙ sym h.2)
  proofs_put Define e qs h = refl
  proofs_put DefineAll e qs h = refl
  proofs_put Skolem e qs h = sym h
  proofs_put SetProfile e qs h = sym h
  proofs_put Switch e qs h = sym h
  proofs_put Eval e qs h = sym h
  proofs_put Print e qs h = sym h

pub listed : (n : ℕ) (x : Object) → has_members n x ≡ true → is_list_object x ≡ true
listed zero (Symbol s) h = h
listed zero (Natural k) h = cc
listed zero (Pair a r) h = cc
listed (suc n) (Pair a r) h = listed n r h
listed (suc n) (Natural k) h = cc
listed (suc n) (Symbol s) h = cc

-- no number of proofs fits what is no list
no_count : (n : ℕ) (x : Object) → is_list_object x ≡ false → has_members n x ≡ false
no_count n x h = go (has_members n x) refl
  where
    go : (b : Bool) → has_members n x ≡ b → b ≡ false
    go true e = absurd (true≢false (sym (listed n x e) ∙ h))
    go false e = refl

nothing_found : (o : Option Formula) → ((F : Formula) → o ≡ Some F → ⊥) → o ≡ None
nothing_found None h = refl
nothing_found (Some F) h = absurd (h F refl)

-- ---- the built-in checker

module _ (t : Theory) (N : ℕ) (built_in : t.checker ≡ None) (has : HasFirst t) where
  abbrev judge_here : Object → Option Formula
  judge_here q = judge t.axioms t.theorems (arity_table t.definitions) t.definitions.profile q

  abbrev derive_here : Object → Option Formula
  derive_here p = derive t.axioms t.theorems (arity_table t.definitions) t.definitions.profile p

  same_verdict : (F : Formula) (p q : Object) → second_of q ≡ second_of p → judge_here q ≡ derive_here p → judged_as t N F q ≡ derived_as t N F p
  same_verdict F p q s v =
      ap₂ (λ x r. cond (same_object x (formula_object F)) r (Some CONCLUSION)) s (ap (λ f. judged_by f t q N) built_in ∙ (ap (no_unless PROOF) v ∙ ap (λ f. derived_by f t p N) (sym built_in)))

  -- a derivation turns, whatever its formula
  pub derived_turns : (p : Object) (F : Formula) → derive_here p ≡ Some F → (q : Object) × TurnsAt Turns t p q
  derived_turns p F e = derivation_turns t.axioms t.theorems (arity_table t.definitions) t.definitions.profile has.one has.two p F (derive_good t.axioms t.theorems (arity_table t.definitions) t.definitions.profile p F e)

  judged_turns : (p : Object) (F : Formula) → judge_here p ≡ Some F → (q : Object) × TurnsAt Turns t p q
  judged_turns p F e =
      derivation_turns t.axioms t.theorems (arity_table t.definitions) t.definitions.profile has.one has.two p F
      (proof_derives t.axioms t.theorems (arity_table t.definitions) t.definitions.profile p F (judge_good t.axioms t.theorems (arity_table t.definitions) t.definitions.profile p F e))

  turned_verdict : (F : Formula) (p q : Object) → TurnsOrStays Turns t p q → judged_as t N F q ≡ derived_as t N F p
  turned_verdict F p q (inl h) =
      same_verdict F p q
      (conclusion_is t.axioms t.theorems (arity_table t.definitions) t.definitions.profile q h.formula h.proved ∙ sym (derivation_concludes t.axioms t.theorems (arity_table t.definitions) t.definitions.profile p h.formula h.derived))
      ((good_judge t.axioms t.theorems (arity_table t.definitions) t.definitions.profile q h.formula h.proved).1
      ∙ sym (good_derive t.axioms t.theorems (arity_table t.definitions) t.definitions.profile p h.formula h.derived).1)
  turned_verdict F p q (inr h) =
      let no_derivation = nothing_found (derive_here p) (λ G e. let r = derived_turns p G e in h.0 r.0 r.1) in
      let no_proof = nothing_found (judge_here p) (λ G e. let r = judged_turns p G e in h.0 r.0 r.1) in
      same_verdict F p q (ap second_of h.1) (ap judge_here h.1 ∙ (no_proof ∙ sym no_derivation))

  nothing_same : (Fs : List Formula) → each_judged judged_as t N Fs NIL ≡ each_judged derived_as t N Fs NIL
  nothing_same [] = refl
  nothing_same (F ∷ Fs) = ap₂ option_or (same_verdict F NIL NIL refl refl) (nothing_same Fs)

  each_same : (Fs : List Formula) (ps qs : Object) → Turned t ps qs → each_judged judged_as t N Fs qs ≡ each_judged derived_as t N Fs ps
  each_same [] ps qs h = refl
  each_same (F ∷ Fs) (Natural k) qs h = ap (each_judged judged_as t N (F ∷ Fs)) h ∙ ap₂ option_or (same_verdict F NIL NIL refl refl) (nothing_same Fs)
  each_same (F ∷ Fs) (Symbol s) qs h = ap (each_judged judged_as t N (F ∷ Fs)) h ∙ ap₂ option_or (same_verdict F NIL NIL refl refl) (nothing_same Fs)
  each_same (F ∷ Fs) (Pair p ps) qs h = ap (each_judged judged_as t N (F ∷ Fs)) h.2 ∙ ap₂ option_or (turned_verdict F p h.0 h.3) (each_same Fs ps h.1 h.4)

  settled_same : (ps qs : Object) (d : Demand) → Turned t ps qs → settled judged_as t N qs d ≡ settled derived_as t N ps d
  settled_same ps qs (Denied r) h = refl
  settled_same ps qs (Wants Fs next) h = ap₂ (λ b o. must t COUNT b (unless t o (accept next))) (same_count t (length Fs) ps qs h) (each_same Fs ps qs h)

  word_settled : (w : EventWord) (e qs : Object) → Turned t (proofs_of w e) qs → settled judged_as t N (proofs_of w (with_proofs w e qs)) (demand w t (with_proofs w e qs)) ≡ settled derived_as t N (proofs_of w e) (demand w t e)
  word_settled w e qs h = ap₂ (settled judged_as t N) (proofs_put t w e qs h) (same_demand t w e qs) ∙ settled_same (proofs_of w e) qs (demand w t e) h

  word_same : (w : EventWord) (e qs : Object) → Turned t (proofs_of w e) qs → happens_by_under judged_as w t N (with_proofs w e qs) ≡ happens_by_under derived_as w t N e
  word_same Verify e qs h = word_settled Verify e qs h
  word_same Define e qs h = word_settled Define e qs h
  word_same DefineAll e qs h = word_settled DefineAll e qs h
  word_same Skolem e qs h = word_settled Skolem e qs h
  word_same SetProfile e qs h = word_settled SetProfile e qs h
  word_same Switch e qs h = refl
  word_same Eval e qs h = refl
  word_same Print e qs h = refl

  -- what is no list of proofs
  refused_same : (ps : Object) (d : Demand) → is_list_object ps ≡ false → settled judged_as t N ps d ≡ settled derived_as t N ps d
  unfolding must
  refused_same ps (Denied r) h = refl
  refused_same ps (Wants Fs next) h =
      let k = no_count (length Fs) ps h in
      ap (λ b. must t COUNT b (unless t (each_judged judged_as t N Fs ps) (accept next))) k ∙ ap (λ b. must t COUNT b (unless t (each_judged derived_as t N Fs ps) (accept next))) (sym k)

  unlisted_same : (w : EventWord) (e : Object) → is_list_object (proofs_of w e) ≡ false → happens_by_under judged_as w t N e ≡ happens_by_under derived_as w t N e
  unlisted_same Verify e h = refused_same (proofs_of Verify e) (demand Verify t e) h
  unlisted_same Define e h = refused_same (proofs_of Define e) (demand Define t e) h
  unlisted_same DefineAll e h = refused_same (proofs_of DefineAll e) (demand DefineAll t e) h
  unlisted_same Skolem e h = refused_same (proofs_of Skolem e) (demand Skolem t e) h
  unlisted_same SetProfile e h = refused_same (proofs_of SetProfile e) (demand SetProfile t e) h
  unlisted_same Switch e h = refl
  unlisted_same Eval e h = refl
  unlisted_same Print e h = refl

  list_same : (e rewritten : Object) (w : EventWord) (b : Bool) → is_out_of_range e ≡ false → event_word e ≡ Some w → is_list_object (proofs_of w e) ≡ b → IsRewrittenList b Turns t w e rewritten → happens t N rewritten ≡ happens_under derived_as t N e
  list_same e rewritten w true r k l h =
      ap (happens t N) h.2
      ∙ (happens_as t N (with_proofs w e h.0) w (stays_in_range w e h.0 r (list_in_range t (proofs_of w e) h.0 h.1 (proofs_in_range t w e r))) (same_word e w h.0 k)
      ∙ (word_same w e h.0 h.1 ∙ sym (under_word derived_as t N e w r k)))
  list_same e rewritten w false r k l h = ap (happens t N) h ∙ (happens_as t N e w r k ∙ (unlisted_same w e l ∙ sym (under_word derived_as t N e w r k)))

-- ---- any checker

-- another checker is run on the proofs as they stand
switched_same : (t : Theory) (N : ℕ) (f : Name) (e : Object) → t.checker ≡ Some f → happens t N e ≡ happens_under derived_as t N e
switched_same t N f e c =
    sym (as_before t N e)
    ∙ happen_alike judged_as derived_as t N
    (λ F p. ap (λ r. cond (same_object (second_of p) (formula_object F)) r (Some CONCLUSION)) (ap (λ g. judged_by g t p N) c ∙ ap (λ g. derived_by g t p N) (sym c)))
    e

pub rewritten_same : (t : Theory) (N : ℕ) (e rewritten : Object) → HasFirst t → is_out_of_range e ≡ false → IsRewritten Turns t e rewritten → happens t N rewritten ≡ happens_under derived_as t N e
rewritten_same t N e rewritten has r h = go t.checker refl (event_word e) refl h
  where
    go : (f : Option Name) → t.checker ≡ f → (o : Option EventWord) → event_word e ≡ o → IsRewrittenBy f o Turns t e rewritten → happens t N rewritten ≡ happens_under derived_as t N e
    go (Some f) c o k g = ap (happens t N) g ∙ switched_same t N f e c
    go None c None k g = ap (happens t N) g ∙ (sym (as_before t N e) ∙ (without_word judged_as t N e r k ∙ sym (without_word derived_as t N e r k)))
    go None c (Some w) k g = list_same t N c has e rewritten w (is_list_object (proofs_of w e)) r k refl g
