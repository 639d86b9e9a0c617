-- Why events other than definitions are refused, and what is shown of them.
use Rattle.std.proofs.Common.{◌≡◌, ℕ, Bool, true, false, cond, ltb, List, [], ◌∷◌, length, Option, Some, None, option_map, refl, sym, ap, ◌∙◌, subst, is_some}
use Rattle.mw_model.specs.Terms.Object.{Name, Object, Natural, Symbol, Pair, NIL, is_member, has_members}
use Rattle.mw_model.specs.Terms.Term.{Term, Formula, ArityTable, formula_object, is_formula, is_closed}
use Rattle.mw_model.specs.Terms.Reading.{formula_of, formula_under, when, that}
use Rattle.mw_model.specs.Values.Primitive.{is_symbol}
use Rattle.mw_model.specs.Values.Definition.{Choice, arity_table}
use Rattle.mw_model.specs.Events.Evaluation.{Outcome, Value, Steps, Overflow, Witness, evaluate}
use Rattle.mw_model.specs.Events.Theory.{Theory, claim}
use Rattle.mw_model.specs.Events.Refusal.{Refusal, EVENT, NAME, FORMALS, TERM, FORMULA, VARIABLES, NESTED, CONCLUSION, PROOF, NILVALUE, STEPS, OVERFLOW, WITNESS, CLAIM, CHECKER, LONG, PROFILE, Fate, Accepted, Refused, accept, refuse, need, must}
use Rattle.mw_model.specs.Events.Admission.{add_to_theory, add_witness, skolem}
use Rattle.mw_model.specs.Events.Demand.{Demand, Wants, wants_that, wants_some, without_proofs}
use Rattle.mw_model.specs.Events.Fate.{EventWord, Verify, Skolem, Eval, Print, SetProfile, event_word, event_word_among, event_words, member_count, longest, show, show_outcome, eval, profile, begin_profile, checker_named}
use Rattle.mw_model.proofs.ReadBack.{when_some, formula_back}
use Rattle.mw_theory.specs.Words.{verify_event, skolem_event, eval_event, print_event, profile_event}
use Rattle.mw_theory.specs.Settling.{refusal_by, by_refusal, verified}
use Rattle.mw_commands.specs.Commands.Explanation.{shown, shown_by, word_of, formulas_wanted, wrong_proof, proof_shown, drafts_shown}
use Rattle.mw_kernel.specs.Proofs.{judged_for}
use Rattle.mw_kernel.specs.Switching.{claim_refusal, switched_by, switched}
use Rattle.mw_explain_events.specs.Reasons.{is_of_definitions}
use Rattle.mw_explain_events.proofs.ProofReasons.{is_of_proofs, proof-reason}
use Rattle.mw_explain_events.proofs.DefinitionReasons.{same_reason}

-- ---- VERIFY

that_some : {X : Type 0} (test : X → Bool) (o : Option X) (x : X) → that test o ≡ Some x → o ≡ Some x
that_some test None x h = cc
that_some test (Some y) x h = (when_some (test y) (Some y) x h).1

formula_back_under : (A : ArityTable) (x : Object) (F : Formula) → formula_under A x ≡ Some F → formula_object F ≡ x
formula_back_under A x F h = formula_back x F (that_some (is_formula A) (formula_of x) F h)

-- for reasons of proofs what is shown is that of the first proof that is refused
pub by-proofs : (r : Refusal) (w : EventWord) (t : Theory) (N : ℕ) (e : Object) → is_of_proofs r ≡ true → shown_by r w t N e ≡ shown_by PROOF w t N e
by-proofs CONCLUSION w t N e h = refl
by-proofs PROOF w t N e h = refl
by-proofs NILVALUE w t N e h = refl
by-proofs STEPS w t N e h = refl
by-proofs OVERFLOW w t N e h = refl
by-proofs WITNESS w t N e h = refl
by-proofs _ w t N e h = cc

module _ (t : Theory) (N : ℕ) (name f p : Object) (r : Refusal) (no_name : r ≡ NAME → ⊥) (no_formula : r ≡ FORMULA → ⊥) where
  -- its name, its formula and its proof
  abbrev Tested : Type 0
  Tested = (is_symbol name ≡ true) × (is_some (formula_under (arity_table t.definitions) f) ≡ true) × (judged_for N t f p ≡ Some r)

  by_judge : (n b : Bool) (o : Option Refusal) → is_symbol name ≡ n → is_some (formula_under (arity_table t.definitions) f) ≡ b → judged_for N t f p ≡ o → (by_refusal t f (refusal_by n b o)).0 ≡ Refused r → Tested
  by_judge false b o e d j h = absurd (no_name (sym (same_reason NAME r h)))
  by_judge true false o e d j h = absurd (no_formula (sym (same_reason FORMULA r h)))
  by_judge true true None e d j h = cc
  by_judge true true (Some q) e d j h = (e, d, j ∙ ap Some (same_reason q r h))

  abbrev the_formula : Option Formula → Demand
  the_formula o = wants_some FORMULA o (λ F. Wants (F ∷ []) (record t { theorems = Pair (formula_object F) t.theorems }))

  first_proof : (F : Formula) → formula_object F ≡ f → judged_for N t f p ≡ Some r → proof_shown t N 1 (F ∷ []) (Pair p NIL) ≡ Natural 1 ∷ f ∷ wrong_proof t r p
  first_proof F is j =
      subst (λ x. (elim (judged_for N t x p) [ None ↦ [] | Some q ↦ Natural 1 ∷ x ∷ wrong_proof t q p ]) ≡ Natural 1 ∷ f ∷ wrong_proof t r p) (sym is)
      (ap (λ o. elim o [ None ↦ [] | Some q ↦ Natural 1 ∷ f ∷ wrong_proof t q p ]) j)

  shown_proof : (n : Bool) (o : Option Formula) → n ≡ true → formula_under (arity_table t.definitions) f ≡ o → is_some o ≡ true → judged_for N t f p ≡ Some r → proof_shown t N 1 (formulas_wanted (wants_that NAME n (the_formula o))) (Pair p NIL) ≡ Natural 1 ∷ f ∷ wrong_proof t r p
  shown_proof true (Some F) e is some j = first_proof F (formula_back_under (arity_table t.definitions) f F is) j
  shown_proof true None e is some j = cc
  shown_proof false o e is some j = cc

  pub verify-shown : (verified (judged_for N) t name f p).0 ≡ Refused r → Natural 1 ∷ f ∷ wrong_proof t r p ≡ shown_by r Verify t N (verify_event name f p)
  verify-shown h =
      let A = arity_table t.definitions in
      let w = by_judge (is_symbol name) (is_some (formula_under A f)) (judged_for N t f p) refl refl refl h in
      sym (by-proofs r Verify t N (verify_event name f p) (proof-reason t N f p r w.2) ∙ shown_proof (is_symbol name) (formula_under A f) w.0 refl w.1 w.2)

-- ---- events without proofs

-- What holds of each reason for which such an event may be refused holds of the reason for which it is.
module _ (t : Theory) (r : Refusal) (P : Refusal → Type 0) where
  abbrev Holding : Fate × Theory → Type 0
  Holding f = f.0 ≡ Refused r → P r

  refused_holding : (q : Refusal) → P q → Holding (refuse t q)
  refused_holding q p h = subst P (same_reason q r h) p

  need_holding : {X : Type 0} (q : Refusal) (o : Option X) (go : X → Fate × Theory) → P q → ((x : X) → Holding (go x)) → Holding (need t q o go)
  unfolding need
  need_holding q None go p next = refused_holding q p
  need_holding q (Some x) go p next = next x

  must_holding : (q : Refusal) (b : Bool) (f : Fate × Theory) → P q → Holding f → Holding (must t q b f)
  unfolding must
  must_holding q true f p next = next
  must_holding q false f p next = refused_holding q p

  accept_holding : (next : Theory) → Holding (accept next)
  accept_holding next h = cc

  show_holding : (text : List ℕ) → P LONG → Holding (show t text)
  show_holding text p = go (ltb longest (length text))
    where
      go : (b : Bool) → Holding (cond b (refuse t LONG) (Accepted text, t))
      go true = refused_holding LONG p
      go false = λ h. cc

  outcome_holding : P STEPS → P OVERFLOW → P WITNESS → P LONG → (o : Outcome) → Holding (show_outcome t o)
  outcome_holding s o w l (Value v n) = show_holding _ l
  outcome_holding s o w l Steps = refused_holding STEPS s
  outcome_holding s o w l Overflow = refused_holding OVERFLOW o
  outcome_holding s o w l Witness = refused_holding WITNESS w

  witness_holding : P FORMALS → P VARIABLES → (g : Name) (ys : List Name) (b : Term) → Holding (add_witness t g ys b)
  witness_holding f v g [] b = refused_holding FORMALS f
  witness_holding f v g (y ∷ ys) b = must_holding VARIABLES (is_closed (y ∷ ys) b) (accept (add_to_theory t (Choice g y ys b))) v (accept_holding (add_to_theory t (Choice g y ys b)))

module _ (t : Theory) (N : ℕ) (r : Refusal) where
  abbrev A : ArityTable
  A = arity_table t.definitions

  pub skolem-shown : (n b f x : Object) → (skolem t (skolem_event n b f x)).0 ≡ Refused r → drafts_shown r A A (record { name = n; formals = Pair b f; body = x; measure = NIL } ∷ []) ≡ shown_by r Skolem t N (skolem_event n b f x)
  skolem-shown n b f x =
      let P : Refusal → Type 0 = λ q. drafts_shown q A A (record { name = n; formals = Pair b f; body = x; measure = NIL } ∷ []) ≡ shown_by q Skolem t N (skolem_event n b f x) in
      need_holding t r P NAME _ _ refl (λ g. need_holding t r P FORMALS _ _ refl (λ ys. need_holding t r P TERM _ _ refl (λ c. witness_holding t r P refl refl g ys c)))

  -- a witness and a term are not refused for nested calls
  pub skolem-not-nested : (n b f x : Object) → (skolem t (skolem_event n b f x)).0 ≡ Refused r → r ≡ NESTED → ⊥
  skolem-not-nested n b f x =
      let P : Refusal → Type 0 = λ q. q ≡ NESTED → ⊥ in
      need_holding t r P NAME _ _ (λ e. cc) (λ g. need_holding t r P FORMALS _ _ (λ e. cc) (λ ys. need_holding t r P TERM _ _ (λ e. cc) (λ c. witness_holding t r P (λ e. cc) (λ e. cc) g ys c)))

  pub eval-not-nested : (x : Object) → (eval t N (eval_event x)).0 ≡ Refused r → r ≡ NESTED → ⊥
  eval-not-nested x =
      let P : Refusal → Type 0 = λ q. q ≡ NESTED → ⊥ in
      need_holding t r P TERM _ _ (λ e. cc) (λ a. need_holding t r P VARIABLES _ _ (λ e. cc) (λ closed. outcome_holding t r P (λ e. cc) (λ e. cc) (λ e. cc) (λ e. cc) (evaluate t.definitions N [] closed)))

  -- the tests of a term, or its run
  abbrev IsTermShown : Object → Refusal → Type 0
  IsTermShown x q = (is_of_definitions q ≡ true → drafts_shown q A A (record { name = NIL; formals = NIL; body = x; measure = NIL } ∷ []) ≡ shown_by q Eval t N (eval_event x)) × (is_of_definitions q ≡ false → [] ≡ shown_by q Eval t N (eval_event x))

  pub term-shown : (x : Object) → (eval t N (eval_event x)).0 ≡ Refused r → IsTermShown x r
  term-shown x =
      let P = IsTermShown x in
      need_holding t r P TERM _ _ (λ d. refl, λ d. cc) (λ a. need_holding t r P VARIABLES _ _ (λ d. refl, λ d. cc) (λ closed. outcome_holding t r P (λ d. cc, λ d. refl) (λ d. cc, λ d. refl) (λ d. cc, λ d. refl) (λ d. cc, λ d. refl) (evaluate t.definitions N [] closed)))

  pub print-shown : (x : Object) (text : List ℕ) → (show t text).0 ≡ Refused r → [] ≡ shown_by r Print t N (print_event x)
  print-shown x text = show_holding t r (λ q. [] ≡ shown_by q Print t N (print_event x)) text refl

  no_formulas : (f : Fate) (next : Theory) → [] ≡ proof_shown t N 1 (formulas_wanted (without_proofs f next)) NIL
  no_formulas (Accepted text) next = refl
  no_formulas (Refused q) next = refl

  pub profile-shown : (x : Object) → (profile t (profile_event x)).0 ≡ Refused r → [] ≡ shown_by r SetProfile t N (profile_event x)
  profile-shown x =
      let P : Refusal → Type 0 = λ q. [] ≡ shown_by q SetProfile t N (profile_event x) in
      need_holding t r P PROFILE _ _ (no_formulas (profile t (profile_event x)).0 (profile t (profile_event x)).1) (λ B. accept_holding t r P (begin_profile t B))

  -- ---- SWITCH

  -- it is the claim that is no theorem, of a name
  pub switch-claimed : (x : Object) → (r ≡ CHECKER → ⊥) → (switched t x).0 ≡ Refused r → (is_symbol x ≡ true) × (r ≡ CLAIM)
  switch-claimed x other = by_name (checker_named t x) (named x)
    where
      Claimed : Option Refusal → Type 0
      Claimed o = (switched_by t x o).0 ≡ Refused r → (is_symbol x ≡ true) × (r ≡ CLAIM)

      named : (y : Object) → (f : Name) → checker_named t y ≡ Some f → is_symbol y ≡ true
      named (Symbol g) f e = refl
      named (Natural n) f e = cc
      named (Pair a b) f e = cc

      by_member : is_symbol x ≡ true → (b : Bool) → Claimed (cond b None (Some CLAIM))
      by_member s true h = cc
      by_member s false h = (s, sym (same_reason CLAIM r h))

      by_name : (o : Option Name) → ((f : Name) → o ≡ Some f → is_symbol x ≡ true) → Claimed (claim_refusal t o)
      by_name None s h = absurd (other (sym (same_reason CHECKER r h)))
      by_name (Some f) s h = by_member (s f refl) (is_member (formula_object (claim f)) t.theorems) h

-- ---- what is no event

-- what is shown of an object that begins with a word, or with none
abbrev pub wanted_shown : Option ℕ → List Object
wanted_shown None = []
wanted_shown (Some n) = Natural n ∷ []

module _ (t : Theory) (N : ℕ) where
  pub members-shown : (e : Object) → event_word e ≡ None → wanted_shown (option_map member_count (word_of e)) ≡ shown EVENT (word_of e) t N e
  members-shown (Natural n) h = refl
  members-shown (Symbol s) h = refl
  members-shown (Pair (Natural n) x) h = refl
  members-shown (Pair (Pair a b) x) h = refl
  members-shown (Pair (Symbol s) x) h = go (event_word_among event_words s) h
    where
      counted : (w : EventWord) (b : Bool) → when b (Some w) ≡ None → Natural (member_count w) ∷ [] ≡ cond b [] (Natural (member_count w) ∷ [])
      counted w false e = refl
      counted w true e = cc

      go : (o : Option EventWord) → that (λ w. has_members (member_count w) (Pair (Symbol s) x)) o ≡ None → wanted_shown (option_map member_count o) ≡ shown EVENT o t N (Pair (Symbol s) x)
      go None e = refl
      go (Some w) e = counted w (has_members (member_count w) (Pair (Symbol s) x)) e
