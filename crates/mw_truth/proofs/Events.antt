-- Each event keeps a sound theory sound, and what it accepts is true, where what the checker says yes to is true.
use Rattle.std.proofs.Common.{◌≡◌, ℕ, suc, Bool, true, false, ◌&&◌, ltb, not, cond, List, [], ◌∷◌, length, map, Option, Some, None, refl, sym, ap, subst, option_to_list}
use Rattle.std.proofs.lemmas.Bool.{and_from, not-true}
use Rattle.mw_model.specs.Terms.Object.{Name, Object, Natural, Symbol, Pair, car, cdr, second_of, third_of, fourth_of, fifth_of, sixth_of, same_object, has_members, is_member}
use Rattle.mw_model.specs.Terms.Term.{Term, Formula, formula_object, is_formula, IsFormula, are_formals, are_distinct, is_closed, is_term}
use Rattle.mw_model.specs.Terms.Reading.{formula_of, formula_under, when}
use Rattle.std.specs.Option.{option_zip, option_or}
use Rattle.mw_model.specs.Values.Primitive.{Profile, One, Two, is_symbol}
use Rattle.mw_model.specs.Values.Definition.{Block, Functions, Choice, arity_table, add_functions, is_new, are_new, are_functions, is_some_function, is_block, are_blocks, block_axioms}
use Rattle.mw_model.specs.Values.Truth.{Each, IsTrueIn, AreTrueIn}
use Rattle.mw_model.specs.Events.Obligation.{measure_of, is_nested, is_empty, obligations}
use Rattle.mw_model.specs.Events.Evaluation.{Outcome, Value, Steps, Overflow, Witness, evaluate}
use Rattle.mw_model.specs.Events.Expansion.{expand}
use Rattle.mw_model.specs.Texts.Printing.{text_of}
use Rattle.mw_model.specs.Events.Theory.{Theory, initial, claim, IsSound}
use Rattle.mw_model.specs.Events.Refusal.{Refusal, RANGE, FORMALS, EVENT, STEPS, OVERFLOW, WITNESS, LONG, CONCLUSION, Fate, Accepted, refuse, accept, need, must, unless}
use Rattle.mw_model.specs.Events.Checking.{judged, judged_as, judged_each}
use Rattle.mw_model.specs.Events.Admission.{Draft, all_of, new_name, new_names, formals_of, add_names, functions, measures, are_closed_by, add_to_theory, define, draft_of, drafts_of, some_drafts, add_witness}
use Rattle.mw_model.specs.Events.Fate.{EventWord, Verify, Define, Skolem, Switch, Eval, Print, DefineAll, SetProfile, checker_named, longest, show, show_outcome, begin_profile, event_word, is_out_of_range, happens_by, happens}
use Rattle.mw_model.specs.Reports.Keeping.{formulas_of_word, formulas_by, EventKeeps}
use Rattle.mw_model.proofs.Names.{same_object-eq}
use Rattle.mw_model.proofs.Formed.{formed}
use Rattle.mw_model.proofs.NewNames.{each_found, no_if}
use Rattle.mw_model.proofs.ReadBack.{some_one, and_more-back, when_some}
use Rattle.mw_model.proofs.Unchanged.{unchanged}
use Rattle.mw_truth.specs.Admitted.{IsAdmissible, with_block}
use Rattle.mw_truth.specs.Methods.{IsTrueFormula}
use Rattle.mw_truth.specs.Reached.{JudgesTruly}
use Rattle.mw_truth.proofs.BlockTotal.{each_at}
use Rattle.mw_truth.proofs.ObligationsFormed.{obligations_formed}
use Rattle.mw_truth.proofs.OrdinalFunctions.{less_arity, ordp_arity}
use Rattle.mw_truth.proofs.Admits.{bodies_formed, block_total}
use Rattle.mw_truth.proofs.Totals.{choice_total}
use Rattle.mw_truth.proofs.NewAxioms.{block_axioms-good}
use Rattle.mw_truth.proofs.Drafted.{that_back, both_back, new_name-new, formals_of-formals, expand-term, Belong, belong, table_same, bodies_fit, names_fit, measures_fit, some_fit, all_of-some}
use Rattle.mw_truth.proofs.Growth.{theorem_sound, block_sound, switch_sound}

-- of an event e with this outcome: the theory is sound, and what is accepted is true
abbrev Keeps : Object → Fate × Theory → Type 0
Keeps e r = IsSound r.1 × AreTrueIn r.1.definitions (formulas_by r.0 r.1 e)

-- along the tests
need_keeps : {X : Type 0} (e : Object) (t : Theory) (r : Refusal) (o : Option X) (go : X → Fate × Theory) → IsSound t → ((x : X) → o ≡ Some x → Keeps e (go x)) → Keeps e (need t r o go)
unfolding need
need_keeps e t r None go s k = (s, tt)
need_keeps e t r (Some x) go s k = k x refl

must_keeps : (e : Object) (t : Theory) (r : Refusal) (b : Bool) (rest : Fate × Theory) → IsSound t → (b ≡ true → Keeps e rest) → Keeps e (must t r b rest)
unfolding must
must_keeps e t r true rest s k = k refl
must_keeps e t r false rest s k = (s, tt)

unless_keeps : (e : Object) (t : Theory) (o : Option Refusal) (rest : Fate × Theory) → IsSound t → (o ≡ None → Keeps e rest) → Keeps e (unless t o rest)
unfolding unless
unless_keeps e t None rest s k = k refl
unless_keeps e t (Some r) rest s k = (s, tt)

refuse_keeps : (e : Object) (t : Theory) (r : Refusal) → IsSound t → Keeps e (refuse t r)
refuse_keeps e t r s = (s, tt)

-- an accepted event with this word
accept_keeps : (e : Object) (w : EventWord) (t : Theory) (text : List ℕ) → event_word e ≡ Some w → IsSound t → AreTrueIn t.definitions (formulas_of_word (Some w) t e) → Keeps e (Accepted text, t)
accept_keeps e w t text q s h = (s, subst (λ o. AreTrueIn t.definitions (formulas_of_word o t e)) (sym q) h)

-- what is judged
cond_none : {X : Type 0} (b : Bool) (o : Option X) (x : X) → cond b o (Some x) ≡ None → (b ≡ true) × (o ≡ None)
cond_none true o x h = (refl, h)
cond_none false o x h = cc

or_none : (o r : Option Refusal) → option_or o r ≡ None → (o ≡ None) × (r ≡ None)
or_none None r h = (refl, h)
or_none (Some q) r h = cc

pub judged_as-true : (t : Theory) (N : ℕ) → JudgesTruly t N → (F : Formula) (p : Object) → IsFormula (arity_table t.definitions) F → judged_as t N F p ≡ None → IsTrueIn t.definitions F
judged_as-true t N j F p i h =
    let q = cond_none (same_object (second_of p) (formula_object F)) (judged t p N) CONCLUSION h in
    j p F i q.1 (same_object-eq (second_of p) (formula_object F) q.0)

judged_each-true : (t : Theory) (N : ℕ) → JudgesTruly t N → (Fs : List Formula) (ps : Object) → Each (IsFormula (arity_table t.definitions)) Fs → judged_each t N Fs ps ≡ None → AreTrueIn t.definitions Fs
judged_each-true t N j [] ps i h = tt
judged_each-true t N j (F ∷ Fs) ps i h =
    let q = or_none (judged_as t N F (car ps)) (judged_each t N Fs (cdr ps)) h in
    (judged_as-true t N j F (car ps) i.0 q.0, judged_each-true t N j Fs (cdr ps) i.1 q.1)

each_true : (t : Theory) (Fs : List Formula) → Each (IsTrueFormula t.definitions) Fs → AreTrueIn t.definitions Fs
each_true t [] h = tt
each_true t (F ∷ Fs) h = (h.0.1, each_true t Fs h.1)

-- what the tests of a definition have found, and that none has refused it
record IsTested (t : Theory) (N : ℕ) (ds : List Draft) (proofs : Object) (fs : List Name) (xss : List (List Name)) (found : List Term × List Term) : Type 0 where
  pub names : new_names (arity_table t.definitions) (map (λ d. d.name) ds) ≡ Some fs
  pub formals : all_of formals_of (map (λ d. d.formals) ds) ≡ Some xss
  pub terms : (option_zip) (all_of (expand (add_names fs xss (arity_table t.definitions))) (map (λ d. d.body) ds)) (all_of (expand (arity_table t.definitions)) (map (λ d. d.measure) ds)) ≡ Some found
  pub closed : are_closed_by xss found.0 found.1 ≡ true
  pub flat : not (is_nested (functions fs xss found.0) (functions fs xss found.0)) ≡ true
  pub judged : judged_each t N (obligations (functions fs xss found.0) (measures fs found.1)) proofs ≡ None

module _ (t : Theory) (s : IsSound t) (e : Object) where
  -- the newest block, admitted
  added_keeps : (w : EventWord) → event_word e ≡ Some w → (B : Block) → formulas_of_word (Some w) (add_to_theory t B) e ≡ block_axioms B → are_blocks t.definitions.profile (B ∷ t.definitions.blocks) ≡ true → IsSound (add_to_theory t B) → Keeps e (accept (add_to_theory t B))
  added_keeps w q B f made u =
      accept_keeps e w (add_to_theory t B) [] q u
      (subst (AreTrueIn (with_block t.definitions B)) (sym f) (each_true (add_to_theory t B) (block_axioms B) (block_axioms-good t.definitions.profile B t.definitions.blocks made u.total)))

  verify_keeps : (N : ℕ) → JudgesTruly t N → event_word e ≡ Some Verify → Keeps e (happens_by Verify t N e)
  verify_keeps N j q =
      must_keeps e t _ (is_symbol (second_of e)) _ s (λ n.
      need_keeps e t _ (formula_under (arity_table t.definitions) (third_of e)) _ s (λ F f.
      unless_keeps e t (judged_as t N F (fourth_of e)) _ s (λ h.
      let r = that_back (is_formula (arity_table t.definitions)) (formula_of (third_of e)) F f in
      let true_F = judged_as-true t N j F (fourth_of e) r.1 h in
      let u = record t { theorems = Pair (formula_object F) t.theorems } in
      accept_keeps e Verify u [] q (theorem_sound t s F (r.1, true_F))
      (subst (λ o. AreTrueIn t.definitions (option_to_list o)) (sym r.0) (true_F, tt)))))

  -- a definition that passes each test
  tested_sound : (N : ℕ) → JudgesTruly t N → (ds : List Draft) (proofs : Object) (fs : List Name) (xss : List (List Name)) (terms : List Term × List Term) → is_empty ds ≡ false → IsTested t N ds proofs fs xss terms → (are_blocks t.definitions.profile (Functions (functions fs xss terms.0) ∷ t.definitions.blocks) ≡ true) × IsSound (add_to_theory t (Functions (functions fs xss terms.0)))
  tested_sound N j ds proofs fs xss terms some h =
      let P = t.definitions.profile in
      let D = t.definitions.blocks in
      let A = arity_table t.definitions in
      let new = add_names fs xss A in
      let B = functions fs xss terms.0 in
      let M = measures fs terms.1 in
      let names = that_back are_distinct (all_of (new_name A) (map (λ d. d.name) ds)) fs h.names in
      let both_terms = both_back (all_of (expand new) (map (λ d. d.body) ds)) (all_of (expand A) (map (λ d. d.measure) ds)) terms h.terms in
      let b : Belong A new fs xss terms.0 terms.1 = belong A new ds fs xss terms.0 terms.1 names.0 h.formals both_terms.0 both_terms.1 h.closed in
      let news = names_fit A new fs xss terms.0 terms.1 b names.1 in
      let same = table_same A new fs xss terms.0 terms.1 b A in
      let fit = subst (λ C. are_functions C B ≡ true) (sym same) (bodies_fit A new fs xss terms.0 terms.1 b) in
      let filled = some_fit A new fs xss terms.0 terms.1 b (all_of-some (new_name A) (map (λ d. d.name) ds) fs names.0 (map_some ds some)) in
      let block = and_from (is_some_function B) (are_new A B && are_functions (add_functions B A) B) filled (and_from (are_new A B) (are_functions (add_functions B A) B) news fit) in
      let made : are_blocks P (Functions B ∷ D) ≡ true = and_from (is_block A (Functions B)) (are_blocks P D) block s.made in
      let measured = measures_fit A new fs xss terms.0 terms.1 b names.1 in
      let n = not-true (is_nested B B) h.flat in
      let owed_formed = obligations_formed A B M (no_if P B D made) (less_arity P D s.made s.begun) (ordp_arity P D s.made s.begun) (λ f g k. formed A (measure_of M g.name) (each_at (λ g. IsMeasured g.formals (measure_of M g.name)) B measured f g k).0) (each_found A B news) (bodies_formed (add_functions B A) B fit) n in
      let i : IsAdmissible t.definitions B M = record { made = made; begun = s.begun; total = s.total; measured = measured; flat = n; owed = judged_each-true t N j (obligations B M) proofs owed_formed h.judged } in
      (made, block_sound t s (Functions B) made (block_total P D B M i))
    where
      IsMeasured : List Name → Term → Type 0
      IsMeasured xs m = (is_term (arity_table t.definitions) m ≡ true) × (is_closed xs m ≡ true)

      map_some : (ds : List Draft) → is_empty ds ≡ false → is_empty (map (λ d. d.name) ds) ≡ false
      map_some [] k = k
      map_some (d ∷ ds) k = refl

  define_keeps : (N : ℕ) → JudgesTruly t N → (w : EventWord) → event_word e ≡ Some w → ((B : Block) → formulas_of_word (Some w) (add_to_theory t B) e ≡ block_axioms B) → (ds : List Draft) → is_empty ds ≡ false → (proofs : Object) → Keeps e (define t N ds proofs)
  define_keeps N j w q f ds some proofs =
      let A = arity_table t.definitions in
      need_keeps e t _ (new_names A (map (λ d. d.name) ds)) _ s (λ fs h1.
      need_keeps e t _ (all_of formals_of (map (λ d. d.formals) ds)) _ s (λ xss h2.
      need_keeps e t _ (option_zip (all_of (expand (add_names fs xss A)) (map (λ d. d.body) ds)) (all_of (expand A) (map (λ d. d.measure) ds))) _ s (λ terms h3.
      let B = functions fs xss terms.0 in
      let owed = obligations B (measures fs terms.1) in
      must_keeps e t _ (are_closed_by xss terms.0 terms.1) _ s (λ h4.
      must_keeps e t _ (not (is_nested B B)) _ s (λ h5.
      must_keeps e t _ (has_members (length owed) proofs) _ s (λ h6.
      unless_keeps e t (judged_each t N owed proofs) _ s (λ h7.
      let d = tested_sound N j ds proofs fs xss terms some (record { names = h1; formals = h2; terms = h3; closed = h4; flat = h5; judged = h7 }) in
      added_keeps w q (Functions B) (f (Functions B)) d.0 d.1)))))))

  -- a witness
  witness_keeps : event_word e ≡ Some Skolem → (g : Name) (ys : List Name) (b : Term) → is_new (arity_table t.definitions) g ≡ true → are_formals ys ≡ true → is_term (arity_table t.definitions) b ≡ true → Keeps e (add_witness t g ys b)
  witness_keeps q g [] b n f i = refuse_keeps e t FORMALS s
  witness_keeps q g (y ∷ xs) b n f i =
      let P = t.definitions.profile in
      let D = t.definitions.blocks in
      let A = arity_table t.definitions in
      must_keeps e t _ (is_closed (y ∷ xs) b) _ s (λ shut.
      let block = and_from (is_new A g) (are_formals (y ∷ xs) && (is_term A b && is_closed (y ∷ xs) b)) n (and_from (are_formals (y ∷ xs)) (is_term A b && is_closed (y ∷ xs) b) f (and_from (is_term A b) (is_closed (y ∷ xs) b) i shut)) in
      let made : are_blocks P (Choice g y xs b ∷ D) ≡ true = and_from (is_block A (Choice g y xs b)) (are_blocks P D) block s.made in
      added_keeps Skolem q (Choice g y xs b) refl made (block_sound t s (Choice g y xs b) made (choice_total P D g y xs b s.total)))

  skolem_keeps : (N : ℕ) → event_word e ≡ Some Skolem → Keeps e (happens_by Skolem t N e)
  skolem_keeps N q =
      let A = arity_table t.definitions in
      need_keeps e t _ (new_name A (second_of e)) _ s (λ g h1.
      need_keeps e t _ (formals_of (Pair (third_of e) (fourth_of e))) _ s (λ ys h2.
      need_keeps e t _ (expand A (fifth_of e)) _ s (λ b h3.
      witness_keeps q g ys b (new_name-new A (second_of e) g h1) (formals_of-formals (Pair (third_of e) (fourth_of e)) ys h2) (expand-term A (fifth_of e) b h3))))

  switch_keeps : (N : ℕ) → event_word e ≡ Some Switch → Keeps e (happens_by Switch t N e)
  switch_keeps N q =
      need_keeps e t _ (checker_named t (second_of e)) _ s (λ f h1.
      must_keeps e t _ (is_member (formula_object (claim f)) t.theorems) _ s (λ h2.
      accept_keeps e Switch (record t { checker = Some f; level = suc t.level }) [] q (switch_sound t s (second_of e) f h1 h2) tt))

  -- events that show a text
  show_keeps : (w : EventWord) → event_word e ≡ Some w → formulas_of_word (Some w) t e ≡ [] → (text : List ℕ) → Keeps e (show t text)
  show_keeps w q f text = go (ltb longest (length text))
    where
      go : (b : Bool) → Keeps e (cond b (refuse t LONG) (Accepted text, t))
      go true = (s, tt)
      go false = accept_keeps e w t text q s (subst (AreTrueIn t.definitions) (sym f) tt)

  outcome_keeps : event_word e ≡ Some Eval → (o : Outcome) → Keeps e (show_outcome t o)
  outcome_keeps q (Value v n) = show_keeps Eval q refl (text_of v)
  outcome_keeps q Steps = refuse_keeps e t STEPS s
  outcome_keeps q Overflow = refuse_keeps e t OVERFLOW s
  outcome_keeps q Witness = refuse_keeps e t WITNESS s

  eval_keeps : (N : ℕ) → event_word e ≡ Some Eval → Keeps e (happens_by Eval t N e)
  eval_keeps N q =
      need_keeps e t _ (expand (arity_table t.definitions) (second_of e)) _ s (λ a h1.
      need_keeps e t _ (when (is_closed [] a) (Some a)) _ s (λ closed h2.
      outcome_keeps q (evaluate t.definitions N [] closed)))

  -- the second profile
  begin_keeps : event_word e ≡ Some SetProfile → IsSound (initial Two) → (P : Profile) → Keeps e (accept (begin_profile t P))
  begin_keeps q two One = accept_keeps e SetProfile t [] q s tt
  begin_keeps q two Two = accept_keeps e SetProfile (initial Two) [] q two tt

  profile_keeps : (N : ℕ) → event_word e ≡ Some SetProfile → IsSound (initial Two) → Keeps e (happens_by SetProfile t N e)
  profile_keeps N q two = need_keeps e t _ _ _ s (λ P h. begin_keeps q two P)

some_drafted : (x : Object) (ds : List Draft) → some_drafts x ≡ Some ds → is_empty ds ≡ false
some_drafted (Natural n) ds h = cc
some_drafted (Symbol n) ds h = cc
some_drafted (Pair d r) ds h = let p = and_more-back (draft_of d) (drafts_of r) ds h in ap is_empty p.4

module _ (t : Theory) (s : IsSound t) (N : ℕ) (j : JudgesTruly t N) (two : IsSound (initial Two)) where
  happens_by-keeps : (w : EventWord) (e : Object) → event_word e ≡ Some w → Keeps e (happens_by w t N e)
  happens_by-keeps Verify e q = verify_keeps t s e N j q
  happens_by-keeps Define e q =
      define_keeps t s e N j Define q (λ B. refl) (record { name = second_of e; formals = third_of e; body = fourth_of e; measure = fifth_of e } ∷ []) refl (sixth_of e)
  happens_by-keeps Skolem e q = skolem_keeps t s e N q
  happens_by-keeps Switch e q = switch_keeps t s e N q
  happens_by-keeps Eval e q = eval_keeps t s e N q
  happens_by-keeps Print e q = show_keeps t s e Print q refl (text_of (second_of e))
  happens_by-keeps DefineAll e q =
      need_keeps e t EVENT (some_drafts (second_of e)) _ s (λ ds h. define_keeps t s e N j DefineAll q (λ B. refl) ds (some_drafted (second_of e) ds h) (third_of e))
  happens_by-keeps SetProfile e q = profile_keeps t s e N q two

  happens_keeps : (e : Object) → Keeps e (happens t N e)
  happens_keeps e =
      need_keeps e t RANGE (when (not (is_out_of_range e)) (Some e)) _ s (λ x h.
      let same = some_one (when_some (not (is_out_of_range e)) (Some e) x h).1 in
      need_keeps e t EVENT (event_word x) _ s (λ w q.
      subst (λ z. Keeps z (happens_by w t N x)) (sym same) (happens_by-keeps w x q)))

  pub event_keeps : (e : Object) → EventKeeps t N e
  event_keeps e =
      let k = happens_keeps e in
      record { true_formulas = k.1; unchanged = unchanged t N e; sound = k.0 }
