-- What is shown of the first proof that is refused, by the objects of formulas.
use Rattle.std.proofs.Common.{◌≡◌, ℕ, suc, ◌+◌, ◌<◌, true, false, cond, Bool, Option, Some, None, List, [], ◌∷◌, length, option_map, MatchOption, map, refl, sym, ap, ap₂, ◌∙◌, subst, arith, one-add, is_some, true≢false, inl, inr}
use Rattle.std.specs.Option.{option_or}
use Rattle.mw_model.specs.Terms.Object.{Object, Natural, Symbol, Pair, car, cdr, second_of, same_object, has_members}
use Rattle.mw_model.specs.Terms.Term.{Formula, formula_object}
use Rattle.mw_model.specs.Values.Primitive.{is_pair}
use Rattle.mw_model.specs.Values.Definition.{arity_table}
use Rattle.mw_model.specs.Laws.RulesInduction.{formulas_object, length_object}
use Rattle.mw_model.specs.Proofs.Judgment.{judge}
use Rattle.mw_model.specs.Events.Theory.{Theory}
use Rattle.mw_model.specs.Events.Refusal.{Refusal, CONCLUSION, PROOF}
use Rattle.mw_model.specs.Events.Checking.{no_unless, judged_by, judged}
use Rattle.mw_model.specs.Events.Demand.{each_judged}
use Rattle.mw_heap.specs.declared.vocabulary.refusal.Refusal.{Refusal as Reason}
use Rattle.mw_heap.specs.Variants.{refusal_of}
use Rattle.mw_heap.specs.Objects.{object_at, IsIn, Grows}
use Rattle.mw_heap.proofs.Objects.{object_at-Grows, Grows-trans}
use Rattle.mw_term.specs.Marking.{ObjectMark, AreMarks}
use Rattle.mw_theory.specs.declared.theory.Theory.{Theory as Kept}
use Rattle.mw_theory.specs.Knowledge.{parts_of, meant, IsHeld}
use Rattle.mw_theory.specs.Proofs.{by_formula}
use Rattle.mw_theory.proofs.CallerLemmas.{meant-grows, pair_before}
use Rattle.mw_commands.specs.Commands.Explanation.{wrong_proof, proof_shown}
use Rattle.mw_commands.specs.Commands.ExplanationSteps.{Placed, placed_step, first_bad, is_proof_at, bad_step_shown}
use Rattle.mw_bad_steps.specs.Shown.{Shows}
use Rattle.mw_kernel.specs.Proofs.{judged_for}
use Rattle.mw_explain_events.specs.Reasons.{IsNoneOr, AreRefused}

-- ---- one proof, by looking for a bad step

module _ (t : Theory) (N : ℕ) (f p : Object) (built_in : t.checker ≡ None) (some : is_proof_at t p ≡ false → (b : Placed) × (first_bad (is_proof_at t) p ≡ Some b)) (none : is_proof_at t p ≡ true → first_bad (is_proof_at t) p ≡ None) where
  by_rules : (b : Bool) → same_object (second_of p) f ≡ b → judged_for N t f p ≡ cond b (no_unless PROOF (judge t.axioms t.theorems (arity_table t.definitions) t.definitions.profile p)) (Some CONCLUSION)
  by_rules b e = ap (λ c. cond c (judged t p N) (Some CONCLUSION)) e ∙ ap (λ c. cond b (judged_by c t p N) (Some CONCLUSION)) built_in

  good : (b : Bool) (o : Option Formula) → cond b (no_unless PROOF o) (Some CONCLUSION) ≡ None → is_some o ≡ true
  good true (Some F) h = refl
  good true None h = cc
  good false o h = cc

  bad : (b : Bool) (o : Option Formula) → cond b (no_unless PROOF o) (Some CONCLUSION) ≡ Some PROOF → is_some o ≡ false
  bad true (Some F) h = cc
  bad true None h = refl
  bad false o h = cc

  -- a proof that is not refused shows nothing, and one that is shows something
  pub good-shows-none : judged_for N t f p ≡ None → bad_step_shown t p ≡ []
  good-shows-none h = ap (placed_step t) (none (good (same_object (second_of p) f) _ (sym (by_rules (same_object (second_of p) f) refl) ∙ h)))

  pub bad-shows-some : judged_for N t f p ≡ Some PROOF → bad_step_shown t p ≡ [] → ⊥
  bad-shows-some h e =
      let (b, is) = some (bad (same_object (second_of p) f) _ (sym (by_rules (same_object (second_of p) f) refl) ∙ h)) in
      nothing_not b (sym (ap (placed_step t) is) ∙ e)
    where
      nothing_not : (b : Placed) → placed_step t (Some b) ≡ [] → ⊥
      nothing_not b h = cc

  -- so what it shows tells whether it is refused
  pub found-none : IsNoneOr PROOF (judged_for N t f p) → bad_step_shown t p ≡ [] → judged_for N t f p ≡ None
  found-none (inl h) e = h
  found-none (inr h) e = absurd (bad-shows-some h e)

  pub found-some : IsNoneOr PROOF (judged_for N t f p) → (bad_step_shown t p ≡ [] → ⊥) → judged_for N t f p ≡ Some PROOF
  found-some (inl h) e = absurd (e (good-shows-none h))
  found-some (inr h) e = h

  pub proof-found : {V : Type 0} (items : V → List ℕ) (os : List Object) (o : Option V) (r : Refusal) → r ≡ PROOF → IsNoneOr r (judged_for N t f p) → MatchOption o (bad_step_shown t p ≡ []) (λ v. (bad_step_shown t p ≡ [] → ⊥) × Shows os (items v) (bad_step_shown t p)) → MatchOption o (judged_for N t f p ≡ None) (λ v. (judged_for N t f p ≡ Some r) × Shows os (items v) (wrong_proof t r p))
  proof-found items os None r is told none = found-none (subst (λ q. IsNoneOr q (judged_for N t f p)) is told) none
  proof-found items os (Some v) r is told some = (
    found-some (subst (λ q. IsNoneOr q (judged_for N t f p)) is told) some.0 ∙ ap Some (sym is),
    subst (λ q. Shows os (items v) (wrong_proof t q p)) (sym is) some.1,
  )

-- by a judge's answer
pub judged-none : (o : Option Reason) (j : Option Refusal) → is_some o ≡ false → option_map refusal_of o ≡ j → j ≡ None
judged-none None j h e = sym e
judged-none (Some q) j h e = cc

pub judged-some : (r : Refusal) (o : Option Reason) (j : Option Refusal) → is_some o ≡ true → option_map refusal_of o ≡ j → IsNoneOr r j → j ≡ Some r
judged-some r (Some q) j h e (inl k) = absurd (never k e)
  where
    never : j ≡ None → Some (refusal_of q) ≡ j → ⊥
    never k e = cc
judged-some r (Some q) j h e (inr k) = k
judged-some r None j h e k = cc

-- parts, where there are any
map_none : (os : List Object) (xs : List ℕ) → map (object_at os) xs ≡ [] → xs ≡ []
map_none os [] h = refl
map_none os (x ∷ xs) h = cc

pub parts-found : {V : Type 0} (items : V → List ℕ) (parts : V) (r : Option V) (os : List Object) (xs : List Object) → MatchOption r (items parts ≡ []) (λ v. (v ≡ parts) × (items v ≡ [] → ⊥)) → Shows os (items parts) xs → MatchOption r (xs ≡ []) (λ v. (xs ≡ [] → ⊥) × Shows os (items v) xs)
parts-found items parts None os xs none h = sym h.1 ∙ ap (map (object_at os)) none
parts-found items parts (Some v) os xs some h =
    let shows : Shows os (items v) xs = subst (λ w. Shows os (items w) xs) (sym some.0) h in
    (λ e. some.1 (map_none os (items v) (shows.1 ∙ e)), shows)

-- ---- the proofs in order

-- what is shown from number k on, and why the first that is refused is
abbrev pub shown_for : Theory → ℕ → ℕ → Object → Object → List Object
shown_for t N k (Pair f fs) ps = elim (judged_for N t f (car ps)) [ None ↦ shown_for t N (suc k) fs (cdr ps) | Some r ↦ Natural k ∷ f ∷ wrong_proof t r (car ps) ]
shown_for t N k (Natural n) ps = []
shown_for t N k (Symbol s) ps = []

abbrev pub refused_for : Theory → ℕ → Object → Object → Option Refusal
refused_for t N (Pair f fs) ps = option_or (judged_for N t f (car ps)) (refused_for t N fs (cdr ps))
refused_for t N (Natural n) ps = None
refused_for t N (Symbol s) ps = None

pub shown_for-is : (t : Theory) (N k : ℕ) (Fs : List Formula) (ps : Object) → shown_for t N k (formulas_object Fs) ps ≡ proof_shown t N k Fs ps
shown_for-is t N k [] ps = refl
shown_for-is t N k (F ∷ Fs) ps = ap (λ xs. elim (judged_for N t (formula_object F) (car ps)) [ None ↦ xs | Some r ↦ Natural k ∷ formula_object F ∷ wrong_proof t r (car ps) ]) (shown_for-is t N (suc k) Fs (cdr ps))

pub refused_for-is : (t : Theory) (N : ℕ) (Fs : List Formula) (ps : Object) → refused_for t N (formulas_object Fs) ps ≡ each_judged (by_formula (judged_for N)) t 0 Fs ps
refused_for-is t N [] ps = refl
refused_for-is t N (F ∷ Fs) ps = ap (option_or (judged_for N t (formula_object F) (car ps))) (refused_for-is t N Fs (cdr ps))

length_formulas : (Fs : List Formula) → length_object (formulas_object Fs) ≡ length Fs
length_formulas [] = refl
length_formulas (F ∷ Fs) = omega (arith, length_formulas Fs)

none_shown : (t : Theory) (N k : ℕ) (fs ps : Object) → is_pair fs ≡ false → shown_for t N k fs ps ≡ []
none_shown t N k (Natural n) ps h = refl
none_shown t N k (Symbol s) ps h = refl
none_shown t N k (Pair f fs) ps h = cc

as_many_next : (x y a b c d : Object) → x ≡ Pair a b → y ≡ Pair c d → has_members (length_object x) y ≡ has_members (length_object b) d
as_many_next x y a b c d e f = ap₂ (λ u v. has_members (length_object u) v) e f ∙ ap (λ n. has_members n (Pair c d)) (one-add (length_object b))

too_few : (x y a b : Object) → x ≡ Pair a b → is_pair y ≡ false → has_members (length_object x) y ≡ false
too_few x (Natural n) a b e h = ap (λ u. has_members (length_object u) (Natural n)) e ∙ ap (λ k. has_members k (Natural n)) (one-add (length_object b))
too_few x (Symbol s) a b e h = ap (λ u. has_members (length_object u) (Symbol s)) e ∙ ap (λ n. has_members n (Symbol s)) (one-add (length_object b))
too_few x (Pair c d) a b e h = cc

first_or_none : (o rest : Option Refusal) (r : Refusal) → option_or o rest ≡ Some r → IsNoneOr r o
first_or_none None rest r h = inl refl
first_or_none (Some q) rest r h = inr h

-- A walk over formulas and their proofs: those before the rest are not refused.
module _ (os : List Object) (t : Kept) (N : ℕ) (r : Refusal) (formulas proofs : ℕ) where
  abbrev theory : Theory
  theory = meant os (parts_of t)

  pub record Walks (now : List Object) (marks : List ObjectMark) (left rest number : ℕ) : Type 0 where
    pub grows : Grows os now
    pub marked : AreMarks t.arity now marks
    pub left_in : IsIn os left
    pub rest_in : IsIn os rest
    pub many : has_members (length_object (object_at os left)) (object_at os rest) ≡ true
    pub refused : refused_for theory N (object_at os left) (object_at os rest) ≡ Some r
    pub shown : shown_for theory N 1 (object_at os formulas) (object_at os proofs) ≡ shown_for theory N number (object_at os left) (object_at os rest)

  -- at the start
  pub Walks-first : (marks : List ObjectMark) → Grows os os → AreMarks t.arity os marks → IsIn os formulas → IsIn os proofs → (Fs : List Formula) → object_at os formulas ≡ formulas_object Fs → AreRefused r theory N Fs (object_at os proofs) → Walks os marks formulas proofs 1
  Walks-first marks g m f_in p_in Fs is h = record {
    grows = g;
    marked = m;
    left_in = f_in;
    rest_in = p_in;
    many = ap (λ n. has_members n (object_at os proofs)) (ap length_object is ∙ length_formulas Fs) ∙ h.0;
    refused = ap (λ x. refused_for theory N x (object_at os proofs)) is ∙ (refused_for-is theory N Fs (object_at os proofs) ∙ h.1);
    shown = refl;
  }

  module _ (h : IsHeld os t) (now : List Object) (marks : List ObjectMark) (left rest number : ℕ) (w : Walks now marks left rest number) (formula more proof others : ℕ) (formula_older : formula < left) (more_older : more < left) (proof_older : proof < rest) (others_older : others < rest) (shows : object_at now left ≡ Pair (object_at now formula) (object_at now more)) (shows_proof : object_at now rest ≡ Pair (object_at now proof) (object_at now others)) where
    left_is : object_at os left ≡ Pair (object_at os formula) (object_at os more)
    left_is = pair_before os now w.grows left formula more w.left_in formula_older more_older shows

    rest_is : object_at os rest ≡ Pair (object_at os proof) (object_at os others)
    rest_is = pair_before os now w.grows rest proof others w.rest_in proof_older others_older shows_proof

    abbrev judged_now : Option Refusal
    judged_now = judged_for N (meant now (parts_of t)) (object_at now formula) (object_at now proof)

    same_formula : object_at now formula ≡ object_at os formula
    same_formula = object_at-Grows os now w.grows formula (omega (arith, formula_older, w.left_in))

    same_proof : object_at now proof ≡ object_at os proof
    same_proof = object_at-Grows os now w.grows proof (omega (arith, proof_older, w.rest_in))

    judged_before : judged_now ≡ judged_for N theory (object_at os formula) (object_at os proof)
    judged_before =
        ap (λ u. judged_for N u (object_at now formula) (object_at now proof)) (meant-grows os now w.grows t h)
        ∙ ap₂ (judged_for N theory) same_formula same_proof

    refused_on : option_or judged_now (refused_for theory N (object_at os more) (object_at os others)) ≡ Some r
    refused_on =
        ap (λ o. option_or o (refused_for theory N (object_at os more) (object_at os others))) judged_before
        ∙ (sym (ap₂ (refused_for theory N) left_is rest_is) ∙ w.refused)

    -- it is refused for that reason, or not refused
    pub reason-here : IsNoneOr r judged_now
    reason-here = first_or_none judged_now (refused_for theory N (object_at os more) (object_at os others)) r refused_on

    shown_on : shown_for theory N 1 (object_at os formulas) (object_at os proofs) ≡ elim judged_now [ None ↦ shown_for theory N (suc number) (object_at os more) (object_at os others) | Some q ↦ Natural number ∷ object_at os formula ∷ wrong_proof theory q (object_at os proof) ]
    shown_on =
        w.shown
        ∙ (ap₂ (shown_for theory N number) left_is rest_is
        ∙ ap (λ o. elim o [ None ↦ shown_for theory N (suc number) (object_at os more) (object_at os others) | Some q ↦ Natural number ∷ object_at os formula ∷ wrong_proof theory q (object_at os proof) ]) (sym judged_before))

    -- one more that is not refused
    pub Walks-next : judged_now ≡ None → (new : List Object) (ms : List ObjectMark) (next : ℕ) → Grows now new → AreMarks t.arity new ms → next ≡ number + 1 → Walks new ms more others next
    Walks-next none new ms next g m counted = record {
      grows = Grows-trans os now new w.grows g;
      marked = m;
      left_in = omega (arith, more_older, w.left_in);
      rest_in = omega (arith, others_older, w.rest_in);
      many = sym (as_many_next _ _ _ _ _ _ left_is rest_is) ∙ w.many;
      refused = sym (ap (λ o. option_or o (refused_for theory N (object_at os more) (object_at os others))) none) ∙ refused_on;
      shown =
          shown_on
          ∙ (ap (λ o. elim o [ None ↦ shown_for theory N (suc number) (object_at os more) (object_at os others) | Some q ↦ Natural number ∷ object_at os formula ∷ wrong_proof theory q (object_at os proof) ]) none
          ∙ ap (λ k. shown_for theory N k (object_at os more) (object_at os others)) (omega (arith, counted)));
    }

    -- one that is refused
    pub shown-here : judged_now ≡ Some r → (Fs : List Formula) → object_at os formulas ≡ formulas_object Fs → Natural number ∷ object_at now formula ∷ wrong_proof (meant now (parts_of t)) r (object_at now proof) ≡ proof_shown theory N 1 Fs (object_at os proofs)
    shown-here is Fs owed =
        ap₂ (λ f xs. Natural number ∷ f ∷ xs) same_formula (ap₂ (λ u p. wrong_proof u r p) (meant-grows os now w.grows t h) same_proof)
        ∙ (sym (ap (λ o. elim o [ None ↦ shown_for theory N (suc number) (object_at os more) (object_at os others) | Some q ↦ Natural number ∷ object_at os formula ∷ wrong_proof theory q (object_at os proof) ]) is)
        ∙ (sym shown_on
        ∙ (ap (λ x. shown_for theory N 1 x (object_at os proofs)) owed ∙ shown_for-is theory N 1 Fs (object_at os proofs))))

  -- none is refused
  pub none-left : (now : List Object) (marks : List ObjectMark) (left rest number : ℕ) → Walks now marks left rest number → is_pair (object_at now left) ≡ false → (Fs : List Formula) → object_at os formulas ≡ formulas_object Fs → [] ≡ proof_shown theory N 1 Fs (object_at os proofs)
  none-left now marks left rest number w end Fs owed =
      sym (none_shown theory N number (object_at os left) (object_at os rest) (ap is_pair (sym (object_at-Grows os now w.grows left w.left_in)) ∙ end))
      ∙ (sym w.shown
      ∙ (ap (λ x. shown_for theory N 1 x (object_at os proofs)) owed ∙ shown_for-is theory N 1 Fs (object_at os proofs)))

  -- a formula has a proof
  pub never-too-few : (now : List Object) (marks : List ObjectMark) (left rest number formula more : ℕ) → Walks now marks left rest number → formula < left → more < left → object_at now left ≡ Pair (object_at now formula) (object_at now more) → is_pair (object_at now rest) ≡ false → ⊥
  never-too-few now marks left rest number formula more w formula_older more_older shows no_proof =
      true≢false
      (sym w.many
      ∙ too_few (object_at os left) (object_at os rest) (object_at os formula) (object_at os more) (pair_before os now w.grows left formula more w.left_in formula_older more_older shows)
      (ap is_pair (sym (object_at-Grows os now w.grows rest w.rest_in)) ∙ no_proof))

-- what an option tells, where it is known
pub shown-none : {V : Type 0} (P : Type 0) (Q : V → Type 0) (o : Option V) → o ≡ None → MatchOption o P Q → P
shown-none P Q None e h = h
shown-none P Q (Some v) e h = cc

pub shown-some : {V : Type 0} (P : Type 0) (Q : V → Type 0) (o : Option V) (v : V) → o ≡ Some v → MatchOption o P Q → Q v
shown-some P Q o v e h = subst (λ x. MatchOption x P Q) e h
