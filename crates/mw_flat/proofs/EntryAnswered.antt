-- The entries of a log, word by word: what is answered to them after good steps.
use Rattle.std.proofs.Common.{◌≡◌, ℕ, Bool, true, false, ◌&&◌, cond, not, List, [], ◌∷◌, map, Option, Some, None, refl, sym, ap, ◌∙◌, subst, is_some}
use Rattle.mw_model.specs.Terms.Object.{Name, Object, Pair, second_of, third_of, fourth_of, fifth_of}
use Rattle.mw_model.specs.Terms.Term.{Term, Formula, formula_object, ArityTable, is_formula, is_closed}
use Rattle.mw_model.specs.Terms.Reading.{formula_of, formula_under, that, when}
use Rattle.mw_model.specs.Values.Primitive.{is_symbol}
use Rattle.mw_model.specs.Values.Truth.{Each}
use Rattle.mw_model.specs.Values.Definition.{Choice, arity_table}
use Rattle.mw_model.specs.Events.Expansion.{expand}
use Rattle.mw_model.specs.Events.Theory.{Theory}
use Rattle.mw_model.specs.Events.Refusal.{Refusal, EVENT, NAME, FORMALS, TERM, FORMULA, VARIABLES, PROOF, PROFILE, Fate, accept, need, must}
use Rattle.mw_model.specs.Events.Admission.{Draft, new_name, formals_of, add_to_theory, some_drafts, add_witness, skolem}
use Rattle.mw_model.specs.Events.Fate as fate
use Rattle.mw_model.specs.Events.Fate.{EventWord, event_word, is_out_of_range, is_initial, profile}
use Rattle.mw_model.specs.Events.Demand.{Demand, Denied, Wants, wants_some, wants_that, define_demand, verify_demand, without_proofs, demand, settled}
use Rattle.mw_model.proofs.Readable.{ReadableFormula, formula_readable}
use Rattle.mw_model.proofs.ReadBack.{some_one, when_some, formula_back}
use Rattle.mw_commands.specs.Commands.Log.{natural_of, naturals_of, one_number, formula_numbered, is_that_formula, numbers_of, entry_with, entry_by, entry_of, conclusions, answer_to_goal, answer_to_demand, answer_to_steps, answer_to_entry, logged}
use Rattle.mw_commands.proofs.Leading.{Asks}
use Rattle.mw_commands.proofs.WantedFormulas.{wanted_readable}
use Rattle.mw_heap.specs.Objects.{object_at}
use Rattle.mw_theory.specs.declared.event.Event.{Event}
use Rattle.mw_theory.specs.declared.event.Event.TheVariants.{Verify, Define, Skolem, Switch, Eval, Print, DefineAll, Profile}
use Rattle.mw_theory.specs.Proofs.{by_formula}
use Rattle.mw_theory.specs.Settling.{refusal_by, by_refusal, verified, defined}
use Rattle.mw_theory.specs.Settled.{settles}
use Rattle.mw_theory.specs.Words.{verify_event, event_object}
use Rattle.mw_flat.specs.Collecting.{by_number, judged_by_number}
use Rattle.mw_flat.proofs.Settled.{answered, IsOfAdmission, some_admits, define-admits, judged-one, demand-settled}

-- what is under a table
under_back : (A : ArityTable) (o : Option Formula) (F : Formula) → that (is_formula A) o ≡ Some F → (o ≡ Some F) × (is_formula A F ≡ true)
under_back A None F h = cc
under_back A (Some G) F h = let p = when_some (is_formula A G) (Some G) F h in (p.1, subst (λ H. is_formula A H ≡ true) (some_one p.1) p.0)

-- what is wanted is read back from its objects
wants-readable : (t : Theory) (w : EventWord) (e : Object) → Asks (λ Gs next. Each ReadableFormula Gs) (demand w t e)
wants-readable t w e = go (demand w t e) refl
  where
    go : (d : Demand) → demand w t e ≡ d → Asks (λ Gs next. Each ReadableFormula Gs) d
    go (Denied r) h = tt
    go (Wants Gs next) h = wanted_readable t w e Gs next h

module _ (os : List Object) (t : Theory) (rs : List ℕ) (Fs : List Formula) (same : map (object_at os) rs ≡ map formula_object Fs) (readable : Each ReadableFormula Fs) where
  goal-answered : (F : Formula) (b : Bool) → answer_to_goal t (record t { theorems = Pair (formula_object F) t.theorems }) (b && true) ≡ answered (by_refusal t (formula_object F) (cond b None (Some PROOF)))
  goal-answered F true = refl
  goal-answered F false = refl

  verify-answered : (name formula proof : Object) (n : ℕ) → natural_of proof ≡ Some n → answer_to_demand t Fs (n ∷ []) (verify_demand t (verify_event name formula proof)) ≡ answered (verified (judged_by_number os rs) t name formula proof)
  verify-answered name formula proof n h = go (is_symbol name) (formula_under (arity_table t.definitions) formula) refl
    where
      go : (b : Bool) (o : Option Formula) → formula_under (arity_table t.definitions) formula ≡ o → answer_to_demand t Fs (n ∷ []) (wants_that NAME b (wants_some FORMULA o (λ F. Wants (F ∷ []) (record t { theorems = Pair (formula_object F) t.theorems })))) ≡ answered (by_refusal t formula (refusal_by b (is_some o) (by_number os rs formula proof)))
      go false o e = refl
      go true None e = refl
      go true (Some F) e =
          let p = under_back (arity_table t.definitions) (formula_of formula) F e in
          goal-answered F (is_that_formula (formula_numbered Fs n) F)
          ∙ (ap (λ r. answered (by_refusal t (formula_object F) r)) (sym (judged-one os t rs Fs same readable F proof n h (formula_readable (arity_table t.definitions) F p.1)))
          ∙ ap (λ x. answered (by_refusal t x (by_number os rs x proof))) (formula_back formula F p.0))

  need-settled : (o : Option (List Draft)) (ps : Object) → settled (by_formula (judged_by_number os rs)) t 0 ps (wants_some EVENT o (define_demand t)) ≡ defined (judged_by_number os rs) t o ps
  unfolding need
  need-settled None ps = refl
  need-settled (Some drafts) ps = refl

  -- ---- events without proofs

  abbrev Plain : Fate × Theory → Type 0
  Plain p = answer_to_demand t Fs [] (without_proofs p.0 p.1) ≡ answered p

  need-plain : {X : Type 0} (r : Refusal) (o : Option X) (go : X → Fate × Theory) → IsOfAdmission r → ((x : X) → Plain (go x)) → Plain (need t r o go)
  unfolding need
  need-plain r None go a k = ap (λ x. (x, t)) (sym a)
  need-plain r (Some x) go a k = k x

  must-plain : (r : Refusal) (b : Bool) (rest : Fate × Theory) → IsOfAdmission r → Plain rest → Plain (must t r b rest)
  unfolding must
  must-plain r true rest a k = k
  must-plain r false rest a k = ap (λ x. (x, t)) (sym a)

  witness-plain : (g : Name) (ys : List Name) (b : Term) → Plain (add_witness t g ys b)
  witness-plain g [] b = refl
  witness-plain g (y ∷ xs) b = must-plain VARIABLES (is_closed (y ∷ xs) b) (accept (add_to_theory t (Choice g y xs b))) refl refl

  skolem-plain : (e : Object) → Plain (skolem t e)
  skolem-plain e =
      let A = arity_table t.definitions in
      need-plain NAME (new_name A (second_of e)) _ refl (λ g.
      need-plain FORMALS (formals_of (Pair (third_of e) (fourth_of e))) _ refl (λ ys.
      need-plain TERM (expand A (fifth_of e)) _ refl (λ b. witness-plain g ys b)))

  profile-plain : (e : Object) → Plain (profile t e)
  profile-plain e = need-plain PROFILE (when (is_initial t) (fate.profile_of (second_of e))) _ refl (λ P. refl)

  -- ---- entries

  module _ (steps : List Object) (good : conclusions t.axioms t.theorems (arity_table t.definitions) t.definitions.profile steps ≡ Some Fs) where
    -- the answer to an entry of this word with these numbers
    by_demand : (x : Object) (w : EventWord) (ns : List ℕ) → entry_of x ≡ entry_with w (Some ns) → logged t steps x ≡ answer_to_demand t Fs ns (demand w t x)
    by_demand x w ns h = ap (answer_to_entry t steps x) h ∙ ap (answer_to_steps t x (record { word = w; numbers = ns })) good

    entry_there : (x : Object) (w : EventWord) → event_word x ≡ Some w → is_some (entry_of x) ≡ true → (ns : List ℕ) × (numbers_of w x ≡ Some ns) × (entry_of x ≡ entry_with w (Some ns))
    entry_there x w word there = go (not (is_out_of_range x)) (numbers_of w x) refl refl (subst (λ o. is_some (when (not (is_out_of_range x)) (entry_by o x)) ≡ true) word there)
      where
        go : (b : Bool) (o : Option (List ℕ)) → not (is_out_of_range x) ≡ b → numbers_of w x ≡ o → is_some (when b (entry_with w o)) ≡ true → (ns : List ℕ) × (numbers_of w x ≡ Some ns) × (entry_of x ≡ entry_with w (Some ns))
        go true (Some ns) e n k = (ns, n, ap (λ c. when c (entry_by (event_word x) x)) e ∙ (ap (λ o. entry_by o x) word ∙ ap (entry_with w) n))
        go true None e n k = cc
        go false o e n k = cc

    one_there : (o : Option ℕ) (ns : List ℕ) → one_number o ≡ Some ns → (n : ℕ) × (o ≡ Some n) × (ns ≡ n ∷ [])
    one_there None ns h = cc
    one_there (Some n) ns h = (n, refl, some_one (sym h))

    listed_there : (b : Bool) (o : Option (List ℕ)) (ns : List ℕ) → when b o ≡ Some ns → o ≡ Some ns
    listed_there b o ns h = (when_some b o ns h).1

    -- what the log answers to an event is what comes of it by a judge by numbers
    pub event-answered : (e : Event) → is_some (entry_of (event_object os e)) ≡ true → logged t steps (event_object os e) ≡ answered (settles (judged_by_number os rs) os t e)
    event-answered (Verify name formula proof) p =
        let x = event_object os (Verify name formula proof) in
        let q = entry_there x fate.Verify refl p in
        let n = one_there (natural_of (object_at os proof)) q.0 q.1 in
        by_demand x fate.Verify q.0 q.2 ∙ (ap (λ ns. answer_to_demand t Fs ns (demand fate.Verify t x)) n.2 ∙ verify-answered (object_at os name) (object_at os formula) (object_at os proof) n.0 n.1)
    event-answered (Define name formals body measure proofs) p =
        let x = event_object os (Define name formals body measure proofs) in
        let q = entry_there x fate.Define refl p in
        by_demand x fate.Define q.0 q.2
        ∙ (demand-settled os t rs Fs same readable (demand fate.Define t x) (object_at os proofs) q.0 q.1 (define-admits t (record { name = second_of x; formals = third_of x; body = fourth_of x; measure = fifth_of x } ∷ [])) (wants-readable t fate.Define x)
        ∙ ap answered (need-settled (Some (record { name = second_of x; formals = third_of x; body = fourth_of x; measure = fifth_of x } ∷ [])) (object_at os proofs)))
    event-answered (DefineAll definitions proofs) p =
        let x = event_object os (DefineAll definitions proofs) in
        let given = some_drafts (object_at os definitions) in
        let q = entry_there x fate.DefineAll refl p in
        by_demand x fate.DefineAll q.0 q.2
        ∙ (demand-settled os t rs Fs same readable (demand fate.DefineAll t x) (object_at os proofs) q.0 (listed_there (is_some given) (naturals_of (object_at os proofs)) q.0 q.1) (some_admits EVENT given (define_demand t) refl (define-admits t)) (wants-readable t fate.DefineAll x)
        ∙ ap answered (need-settled given (object_at os proofs)))
    event-answered (Skolem name bound free body) p =
        let x = event_object os (Skolem name bound free body) in
        let q = entry_there x fate.Skolem refl p in
        by_demand x fate.Skolem q.0 q.2 ∙ (ap (λ ns. answer_to_demand t Fs ns (demand fate.Skolem t x)) (some_one (sym q.1)) ∙ skolem-plain x)
    event-answered (Profile n) p =
        let x = event_object os (Profile n) in
        let q = entry_there x fate.SetProfile refl p in
        by_demand x fate.SetProfile q.0 q.2 ∙ (ap (λ ns. answer_to_demand t Fs ns (demand fate.SetProfile t x)) (some_one (sym q.1)) ∙ profile-plain x)
    event-answered (Switch name) p = let q = entry_there (event_object os (Switch name)) fate.Switch refl p in let none : None ≡ Some q.0 = q.1 in cc
    event-answered (Eval term) p = let q = entry_there (event_object os (Eval term)) fate.Eval refl p in let none : None ≡ Some q.0 = q.1 in cc
    event-answered (Print y) p = let q = entry_there (event_object os (Print y)) fate.Print refl p in let none : None ≡ Some q.0 = q.1 in cc
