-- An event of a log with a yes is accepted with some proofs in place of its numbers.
use Rattle.std.proofs.Common.{◌≡◌, ℕ, Bool, true, false, not, cond, List, [], ◌∷◌, length, Option, Some, None, refl, sym, ap, ap₂, ◌∙◌, subst}
use Rattle.std.proofs.lemmas.Bool.{and_parts, not-true}
use Rattle.mw_model.specs.Terms.Object.{Name, Object, Natural, Symbol, Pair, same_object, NIL, car, second_of, third_of, fourth_of, fifth_of, has_members, list1}
use Rattle.mw_model.specs.Terms.Term.{Formula, formula_object, ArityTable}
use Rattle.mw_model.specs.Terms.Reading.{formula_under, that}
use Rattle.mw_model.specs.Values.Primitive.{Profile, is_symbol}
use Rattle.mw_model.specs.Values.Definition.{arity_table}
use Rattle.mw_model.specs.Values.Truth.{Each}
use Rattle.mw_model.specs.Proofs.Proof.{HasMembers, two, three, four, Proves, proof, ProveEach, no_proofs, more_proofs}
use Rattle.mw_model.specs.Events.Theory.{Theory}
use Rattle.mw_model.specs.Events.Refusal.{NAME, FORMULA, PROOF, CONCLUSION, COUNT, Fate, Accepted, Refused, accept, must, unless}
use Rattle.mw_model.specs.Events.Checking.{no_unless, judged_by, judged_as}
use Rattle.std.specs.Option.{option_or}
use Rattle.mw_model.specs.Events.Admission.{skolem}
use Rattle.mw_model.specs.Events.Fate.{EventWord, Verify, Define, Skolem, Switch, Eval, Print, DefineAll, SetProfile, event_words, event_word_among, member_count, event_word, profile, is_out_of_range, happens}
use Rattle.mw_model.specs.Events.Demand.{Demand, Denied, Wants, wants_some, wants_that, verify_demand, demand, without_proofs, proofs_of, with_proofs, each_judged, settled, happens_by_under}
use Rattle.mw_model.specs.Reports.Keeping.{formulas_of_word}
use Rattle.mw_model.proofs.Names.{same_object-refl}
use Rattle.mw_model.proofs.SameTerms.{same_formula-eq}
use Rattle.mw_model.proofs.ReadBack.{some_one, when_some}
use Rattle.mw_model.proofs.Judging.{good_judge}
use Rattle.mw_model.proofs.Demands.{as_before}
use Rattle.mw_commands.specs.Commands.Log.{formula_numbered, conclusions, Objection, GOAL, SHAPE, STEP, ADMIT, Yes, No, Entry, numbers_of, entry_with, entry_by, entry_of, is_that_formula, are_concluded, answer_to_goal, answer_to_demand, answer_to_steps, answer_to_entry, logged}
use Rattle.mw_commands.proofs.Settling.{under_word}
use Rattle.mw_commands.proofs.Logs.{car_in_range, second_in_range, third_in_range, fourth_in_range, fifth_in_range, pair_in_range, HasProof, HaveProofs, nothing_to_prove, one_more, numbered_proof, conclusions_proved}

-- ---- what a yes comes from

yes_of_goal : (t new next : Theory) (b : Bool) → answer_to_goal t new b ≡ (Yes, next) → (b ≡ true) × (new ≡ next)
yes_of_goal t new next true h = (refl, ap (λ z. z.1) h)
yes_of_goal t new next false h = let k : No GOAL ≡ Yes = ap (λ z. z.0) h in cc

record Passed (t : Theory) (next : Theory) (Fs : List Formula) (ns : List ℕ) (d : Demand) : Type 0 where
  wanted : List Formula
  wants : d ≡ Wants wanted next
  concluded : are_concluded Fs ns wanted ≡ true

yes_of_demand : (t next : Theory) (Fs : List Formula) (ns : List ℕ) (d : Demand) → answer_to_demand t Fs ns d ≡ (Yes, next) → Passed t next Fs ns d
yes_of_demand t next Fs ns (Denied r) h = let k : No ADMIT ≡ Yes = ap (λ z. z.0) h in cc
yes_of_demand t next Fs ns (Wants wanted new) h =
    let p = yes_of_goal t new next (are_concluded Fs ns wanted) h in
    record { wanted = wanted; wants = ap (Wants wanted) p.1; concluded = p.0 }

record Stepped (t : Theory) (next : Theory) (e : Object) (entry : Entry) (o : Option (List Formula)) : Type 0 where
  Fs : List Formula
  good : o ≡ Some Fs
  passed : Passed t next Fs entry.numbers (demand entry.word t e)

yes_of_steps : (t next : Theory) (e : Object) (entry : Entry) (o : Option (List Formula)) → answer_to_steps t e entry o ≡ (Yes, next) → Stepped t next e entry o
yes_of_steps t next e entry None h = let k : No STEP ≡ Yes = ap (λ z. z.0) h in cc
yes_of_steps t next e entry (Some Fs) h = record { Fs = Fs; good = refl; passed = yes_of_demand t next Fs entry.numbers (demand entry.word t e) h }

record Shaped (t : Theory) (next : Theory) (steps : List Object) (e : Object) (o : Option Entry) : Type 0 where
  entry : Entry
  shape : o ≡ Some entry
  stepped : Stepped t next e entry (conclusions t.axioms t.theorems (arity_table t.definitions) t.definitions.profile steps)

yes_of_entry : (t next : Theory) (steps : List Object) (e : Object) (o : Option Entry) → answer_to_entry t steps e o ≡ (Yes, next) → Shaped t next steps e o
yes_of_entry t next steps e None h = let k : No SHAPE ≡ Yes = ap (λ z. z.0) h in cc
yes_of_entry t next steps e (Some entry) h = record { entry = entry; shape = refl; stepped = yes_of_steps t next e entry (conclusions t.axioms t.theorems (arity_table t.definitions) t.definitions.profile steps) h }

-- the word of an entry
word_of_numbers : (w : EventWord) (o : Option (List ℕ)) (entry : Entry) → entry_with w o ≡ Some entry → w ≡ entry.word
word_of_numbers w None entry h = cc
word_of_numbers w (Some ns) entry h = ap (λ x. x.word) (some_one h)

word_of_entry : (o : Option EventWord) (e : Object) (entry : Entry) → entry_by o e ≡ Some entry → o ≡ Some entry.word
word_of_entry None e entry h = cc
word_of_entry (Some w) e entry h = ap Some (word_of_numbers w (numbers_of w e) entry h)

-- ---- proofs for the formulas wanted

module _ (ax th : Object) (A : ArityTable) (P : Profile) where
  that_one : (o : Option Formula) (F : Formula) → is_that_formula o F ≡ true → o ≡ Some F
  that_one None F h = cc
  that_one (Some G) F h = ap Some (same_formula-eq G F h)

  proofs_of_wanted : (Fs : List Formula) (ns : List ℕ) (wanted : List Formula) → Each (HasProof ax th A P) Fs → are_concluded Fs ns wanted ≡ true → HaveProofs ax th A P wanted
  proofs_of_wanted Fs [] [] h e = nothing_to_prove ax th A P
  proofs_of_wanted Fs (n ∷ ns) (F ∷ wanted) h e =
      let p = and_parts (is_that_formula (formula_numbered Fs n) F) (are_concluded Fs ns wanted) e in
      one_more ax th A P F wanted (numbered_proof ax th A P Fs n F h (that_one (formula_numbered Fs n) F p.0)) (proofs_of_wanted Fs ns wanted h p.1)
  proofs_of_wanted Fs [] (F ∷ wanted) h e = cc
  proofs_of_wanted Fs (n ∷ ns) [] h e = cc

  as_many : (Fs : List Formula) (ps : Object) → ProveEach ax th A P ps Fs → has_members (length Fs) ps ≡ true
  as_many Fs ps no_proofs = refl
  as_many Fs ps (more_proofs p qs F Gs g gs) = as_many Gs qs gs

  pub second_is : (p m c ps x : Object) → HasMembers p m c ps x → second_of p ≡ c
  second_is p m c ps x (two a b) = refl
  second_is p m c ps x (three a b d) = refl
  second_is p m c ps x (four a b d y) = refl

  pub conclusion_is : (p : Object) (F : Formula) → Proves ax th A P p F → second_of p ≡ formula_object F
  conclusion_is p F (proof q ps x m G Fs mem i gs row) = second_is q _ (formula_object G) ps x mem

  nothing_is : (ps : Object) → ProveEach ax th A P ps [] → ps ≡ NIL
  nothing_is ps no_proofs = refl

  one_is : (F : Formula) (ps : Object) → ProveEach ax th A P ps (F ∷ []) → list1 (car ps) ≡ ps
  one_is F ps (more_proofs p qs G Gs g gs) = ap (Pair p) (sym (nothing_is qs gs))

module _ (t : Theory) (N : ℕ) (built_in : t.checker ≡ None) where
  abbrev Proof : Object → Formula → Type 0
  Proof p F = Proves t.axioms t.theorems (arity_table t.definitions) t.definitions.profile p F

  pub judged_well : (p : Object) (F : Formula) → Proof p F → judged_as t N F p ≡ None
  judged_well p F g =
      ap (λ x. cond (same_object x (formula_object F)) (judged_by t.checker t p N) (Some CONCLUSION)) (conclusion_is _ _ _ _ p F g)
      ∙ (ap (λ b. cond b (judged_by t.checker t p N) (Some CONCLUSION)) (same_object-refl (formula_object F))
      ∙ (ap (λ f. judged_by f t p N) built_in ∙ ap (no_unless PROOF) (good_judge t.axioms t.theorems (arity_table t.definitions) t.definitions.profile p F g).1))

  each_well : (Fs : List Formula) (ps : Object) → ProveEach t.axioms t.theorems (arity_table t.definitions) t.definitions.profile ps Fs → each_judged judged_as t N Fs ps ≡ None
  each_well Fs ps no_proofs = refl
  each_well Fs ps (more_proofs p qs F Gs g gs) = ap₂ option_or (judged_well p F g) (each_well Gs qs gs)

  settles : (Fs : List Formula) (next : Theory) (ps : Object) → ProveEach t.axioms t.theorems (arity_table t.definitions) t.definitions.profile ps Fs → settled judged_as t N ps (Wants Fs next) ≡ accept next
  unfolding must unless
  settles Fs next ps g =
      ap (λ b. must t COUNT b (unless t (each_judged judged_as t N Fs ps) (accept next))) (as_many t.axioms t.theorems (arity_table t.definitions) t.definitions.profile Fs ps g)
      ∙ ap (λ o. unless t o (accept next)) (each_well Fs ps g)

-- ---- the event with these proofs

verify_wants : (t : Theory) (e : Object) (wanted : List Formula) (next : Theory) → verify_demand t e ≡ Wants wanted next → (F : Formula) × (wanted ≡ F ∷ [])
verify_wants t e wanted next h = go (is_symbol (second_of e)) (formula_under (arity_table t.definitions) (third_of e)) h
  where
    go : (b : Bool) (o : Option Formula) → wants_that NAME b (wants_some FORMULA o (λ F. Wants (F ∷ []) (record t { theorems = Pair (formula_object F) t.theorems }))) ≡ Wants wanted next → (F : Formula) × (wanted ≡ F ∷ [])
    go true (Some F) h = (F, cc)
    go true None h = cc
    go false o h = cc

plain_wants : (f : Fate) (n : Theory) (wanted : List Formula) (next : Theory) → without_proofs f n ≡ Wants wanted next → wanted ≡ []
plain_wants (Accepted v) n wanted next h = cc
plain_wants (Refused r) n wanted next h = cc

module _ (t : Theory) where
  abbrev ProveAll : Object → List Formula → Type 0
  ProveAll ps Fs = ProveEach t.axioms t.theorems (arity_table t.definitions) t.definitions.profile ps Fs

  none_there : (ps : Object) (wanted : List Formula) → wanted ≡ [] → ProveAll ps wanted → NIL ≡ ps
  none_there ps wanted e g = sym (nothing_is t.axioms t.theorems (arity_table t.definitions) t.definitions.profile ps (subst (ProveAll ps) e g))

  proofs_fit : (w : EventWord) (e ps : Object) (wanted : List Formula) (next : Theory) → demand w t e ≡ Wants wanted next → ProveAll ps wanted → proofs_of w (with_proofs w e ps) ≡ ps
  proofs_fit Verify e ps wanted next h g = let F = verify_wants t e wanted next h in one_is t.axioms t.theorems (arity_table t.definitions) t.definitions.profile F.0 ps (subst (ProveAll ps) F.1 g)
  proofs_fit Define e ps wanted next h g = refl
  proofs_fit DefineAll e ps wanted next h g = refl
  proofs_fit Skolem e ps wanted next h g = none_there ps wanted (plain_wants (skolem t e).0 (skolem t e).1 wanted next h) g
  proofs_fit SetProfile e ps wanted next h g = none_there ps wanted (plain_wants (profile t e).0 (profile t e).1 wanted next h) g
  proofs_fit Switch e ps wanted next h g = cc
  proofs_fit Eval e ps wanted next h g = cc
  proofs_fit Print e ps wanted next h g = cc

  pub same_demand : (w : EventWord) (e ps : Object) → demand w t (with_proofs w e ps) ≡ demand w t e
  same_demand Verify e ps = refl
  same_demand Define e ps = refl
  same_demand DefineAll e ps = refl
  same_demand Skolem e ps = refl
  same_demand SetProfile e ps = refl
  same_demand Switch e ps = refl
  same_demand Eval e ps = refl
  same_demand Print e ps = refl

  by_demand : (N : ℕ) (w : EventWord) (e : Object) (wanted : List Formula) (next : Theory) → demand w t e ≡ Wants wanted next → happens_by_under judged_as w t N e ≡ settled judged_as t N (proofs_of w e) (demand w t e)
  by_demand N Verify e wanted next h = refl
  by_demand N Define e wanted next h = refl
  by_demand N DefineAll e wanted next h = refl
  by_demand N Skolem e wanted next h = refl
  by_demand N SetProfile e wanted next h = refl
  by_demand N Switch e wanted next h = cc
  by_demand N Eval e wanted next h = cc
  by_demand N Print e wanted next h = cc

word_stays : (w : EventWord) (s : Name) (r ps : Object) → event_word_among event_words s ≡ Some w → event_word (Pair (Symbol s) r) ≡ Some w → event_word (with_proofs w (Pair (Symbol s) r) ps) ≡ Some w
word_stays Verify s r ps k h = ap (that (λ w. has_members (member_count w) (with_proofs Verify (Pair (Symbol s) r) ps))) k
word_stays Define s r ps k h = ap (that (λ w. has_members (member_count w) (with_proofs Define (Pair (Symbol s) r) ps))) k
word_stays DefineAll s r ps k h = ap (that (λ w. has_members (member_count w) (with_proofs DefineAll (Pair (Symbol s) r) ps))) k
word_stays Skolem s r ps k h = h
word_stays SetProfile s r ps k h = h
word_stays Switch s r ps k h = h
word_stays Eval s r ps k h = h
word_stays Print s r ps k h = h

pub same_word : (e : Object) (w : EventWord) (ps : Object) → event_word e ≡ Some w → event_word (with_proofs w e ps) ≡ Some w
same_word (Natural n) w ps h = cc
same_word (Symbol s) w ps h = cc
same_word (Pair (Natural n) r) w ps h = cc
same_word (Pair (Pair a b) r) w ps h = cc
same_word (Pair (Symbol s) r) w ps h = go (event_word_among event_words s) refl h
  where
    go : (o : Option EventWord) → event_word_among event_words s ≡ o → that (λ w. has_members (member_count w) (Pair (Symbol s) r)) o ≡ Some w → event_word (with_proofs w (Pair (Symbol s) r) ps) ≡ Some w
    go None k g = cc
    go (Some v) k g =
        let p = when_some (has_members (member_count v) (Pair (Symbol s) r)) (Some v) w g in
        let q : v ≡ w = some_one p.1 in
        word_stays w s r ps (k ∙ ap Some q) h

pub stays_in_range : (w : EventWord) (e ps : Object) → is_out_of_range e ≡ false → is_out_of_range ps ≡ false → is_out_of_range (with_proofs w e ps) ≡ false
stays_in_range Verify e ps h k =
    let last = list1 (car ps) in
    let third = Pair (third_of e) last in
    let second = Pair (second_of e) third in
    pair_in_range (car e) second (car_in_range e h) (pair_in_range (second_of e) third (second_in_range e h) (pair_in_range (third_of e) last (third_in_range e h) (pair_in_range (car ps) NIL (car_in_range ps k) refl)))
stays_in_range Define e ps h k =
    let last = list1 ps in
    let fifth = Pair (fifth_of e) last in
    let fourth = Pair (fourth_of e) fifth in
    let third = Pair (third_of e) fourth in
    let second = Pair (second_of e) third in
    pair_in_range (car e) second (car_in_range e h)
    (pair_in_range (second_of e) third (second_in_range e h)
    (pair_in_range (third_of e) fourth (third_in_range e h)
    (pair_in_range (fourth_of e) fifth (fourth_in_range e h) (pair_in_range (fifth_of e) last (fifth_in_range e h) (pair_in_range ps NIL k refl)))))
stays_in_range DefineAll e ps h k =
    let last = list1 ps in
    let second = Pair (second_of e) last in
    pair_in_range (car e) second (car_in_range e h) (pair_in_range (second_of e) last (second_in_range e h) (pair_in_range ps NIL k refl))
stays_in_range Skolem e ps h k = h
stays_in_range SetProfile e ps h k = h
stays_in_range Switch e ps h k = h
stays_in_range Eval e ps h k = h
stays_in_range Print e ps h k = h

same_formulas_brought : (w : EventWord) (next : Theory) (e ps : Object) → formulas_of_word (Some w) next (with_proofs w e ps) ≡ formulas_of_word (Some w) next e
same_formulas_brought Verify next e ps = refl
same_formulas_brought Define next e ps = refl
same_formulas_brought DefineAll next e ps = refl
same_formulas_brought Skolem next e ps = refl
same_formulas_brought SetProfile next e ps = refl
same_formulas_brought Switch next e ps = refl
same_formulas_brought Eval next e ps = refl
same_formulas_brought Print next e ps = refl

pub happens_as : (t : Theory) (N : ℕ) (e : Object) (w : EventWord) → is_out_of_range e ≡ false → event_word e ≡ Some w → happens t N e ≡ happens_by_under judged_as w t N e
happens_as t N e w h k = sym (as_before t N e) ∙ under_word judged_as t N e w h k

-- with a yes: this event, whose proofs alone may differ, is accepted, leads to the same theory and brings the same formulas
pub yes_is_accepted : (t next : Theory) (N : ℕ) (steps : List Object) (e : Object) → t.checker ≡ None → logged t steps e ≡ (Yes, next) → (w : EventWord) × (ps : Object) × (event_word e ≡ Some w) × (happens t N (with_proofs w e ps) ≡ accept next) × (formulas_of_word (event_word (with_proofs w e ps)) next (with_proofs w e ps) ≡ formulas_of_word (event_word e) next e)
yes_is_accepted t next N steps e c h =
    let s = yes_of_entry t next steps e (entry_of e) h in
    let w = s.entry.word in
    let r = when_some (not (is_out_of_range e)) (entry_by (event_word e) e) s.entry s.shape in
    let in_range : is_out_of_range e ≡ false = not-true (is_out_of_range e) r.0 in
    let is_w : event_word e ≡ Some w = word_of_entry (event_word e) e s.entry r.1 in
    let g = s.stepped.passed in
    let ps = proofs_of_wanted t.axioms t.theorems (arity_table t.definitions) t.definitions.profile s.stepped.Fs s.entry.numbers g.wanted (conclusions_proved t.axioms t.theorems (arity_table t.definitions) t.definitions.profile steps s.stepped.Fs s.stepped.good) g.concluded in
    let event = with_proofs w e ps.witnesses in
    let same : demand w t event ≡ Wants g.wanted next = same_demand t w e ps.witnesses ∙ g.wants in
    let word : event_word event ≡ Some w = same_word e w ps.witnesses is_w in (
      w,
      ps.witnesses,
      is_w,
      happens_as t N event w (stays_in_range w e ps.witnesses in_range ps.in_range) word
          ∙ (by_demand t N w event g.wanted next same
          ∙ (ap₂ (settled judged_as t N) (proofs_fit t w e ps.witnesses g.wanted next g.wants ps.prove) same ∙ settles t N c g.wanted next ps.witnesses ps.prove)),
      ap (λ o. formulas_of_word o next event) word ∙ (same_formulas_brought w next e ps.witnesses ∙ ap (λ o. formulas_of_word o next e) (sym is_w)),
    )

-- without a yes the theory stays
no_of_goal : (t new : Theory) (b : Bool) (o : Objection) → (answer_to_goal t new b).0 ≡ No o → (answer_to_goal t new b).1 ≡ t
no_of_goal t new true o h = cc
no_of_goal t new false o h = refl

no_of_demand : (t : Theory) (Fs : List Formula) (ns : List ℕ) (d : Demand) (o : Objection) → (answer_to_demand t Fs ns d).0 ≡ No o → (answer_to_demand t Fs ns d).1 ≡ t
no_of_demand t Fs ns (Denied r) o h = refl
no_of_demand t Fs ns (Wants wanted next) o h = no_of_goal t next (are_concluded Fs ns wanted) o h

no_of_steps : (t : Theory) (e : Object) (entry : Entry) (c : Option (List Formula)) (o : Objection) → (answer_to_steps t e entry c).0 ≡ No o → (answer_to_steps t e entry c).1 ≡ t
no_of_steps t e entry None o h = refl
no_of_steps t e entry (Some Fs) o h = no_of_demand t Fs entry.numbers (demand entry.word t e) o h

no_of_entry : (t : Theory) (steps : List Object) (e : Object) (entry : Option Entry) (o : Objection) → (answer_to_entry t steps e entry).0 ≡ No o → (answer_to_entry t steps e entry).1 ≡ t
no_of_entry t steps e None o h = refl
no_of_entry t steps e (Some entry) o h = no_of_steps t e entry (conclusions t.axioms t.theorems (arity_table t.definitions) t.definitions.profile steps) o h

pub no_leaves_theory : (t : Theory) (steps : List Object) (e : Object) (o : Objection) → (logged t steps e).0 ≡ No o → (logged t steps e).1 ≡ t
no_leaves_theory t steps e o h = no_of_entry t steps e (entry_of e) o h
