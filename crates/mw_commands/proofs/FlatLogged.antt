-- The steps of an accepted event, and the event with their numbers, get a yes and lead to the same theory.
use Rattle.std.proofs.Common.{◌≡◌, ℕ, suc, ◌+◌, ◌<◌, ◌≤◌, Bool, true, false, ◌&&◌, ◌||◌, not, cond, eqb, List, [], ◌∷◌, ◌++◌, length, map, filter, Option, Some, None, ◌⊎◌, inl, inr, refl, sym, ap, ap₂, ◌∙◌, subst, arith, append_assoc, append-nil, length-append, is_some}
use Rattle.std.proofs.lemmas.Bool.{true≢false, and_parts, and_from, or_cases, or_left, or_right, not-true, lt-ltb, eq-eqb}
use Rattle.mw_model.specs.Terms.Object.{Object, Natural, Symbol, Pair, symbol, same_object, NIL, car, second_of, third_of, fourth_of, has_members, list1, list2, list3, list4}
use Rattle.mw_model.specs.Terms.Term.{Formula, formula_object, ArityTable, is_formula, firsts}
use Rattle.mw_model.specs.Terms.Reading.{formula_of, when, and_more}
use Rattle.mw_model.specs.Values.Primitive.{Profile}
use Rattle.mw_model.specs.Values.Definition.{arity_table}
use Rattle.mw_model.specs.Values.Truth.{Each}
use Rattle.mw_model.specs.Events.Evaluation.{range}
use Rattle.mw_model.specs.Proofs.Proof.{HasMembers, two, three, four, method_name, Proves, proof, ProveEach, no_proofs, more_proofs}
use Rattle.mw_model.specs.Proofs.Judgment.{methods, method_among, follows, judge, judge_step}
use Rattle.mw_model.specs.Events.Theory.{Theory}
use Rattle.mw_model.specs.Events.Refusal.{Refusal, RANGE, EVENT, COUNT, CONCLUSION, PROOF, Fate, Accepted, Refused, refuse, accept, need, must, unless}
use Rattle.mw_model.specs.Events.Checking.{no_unless, judged_by, judged_as}
use Rattle.std.specs.Option.{option_or}
use Rattle.mw_model.specs.Events.Admission.{Draft, some_drafts}
use Rattle.mw_model.specs.Events.Fate.{EventWord, Verify, Define, Skolem, Switch, Eval, Print, DefineAll, SetProfile, event_word, is_out_of_range, happens}
use Rattle.mw_model.specs.Events.Demand.{Demand, Denied, Wants, wants_some, define_demand, demand, proofs_of, with_proofs, each_judged, settled, happens_by_under}
use Rattle.mw_model.specs.Texts.Pieces.{numbered}
use Rattle.mw_model.proofs.Names.{same_object-eq, same_object-refl}
use Rattle.mw_model.proofs.SameTerms.{same_formula-refl}
use Rattle.mw_model.proofs.Read.{formula_read}
use Rattle.mw_model.proofs.Readable.{ReadableFormula, formula_readable, formula_object-one}
use Rattle.mw_model.proofs.ReadBack.{some_one, and_more-back, when_some}
use Rattle.mw_model.proofs.Judging.{method_back, row_holds, judge_good, good_judge, goods_judge}
use Rattle.mw_model.proofs.Demands.{as_before}
use Rattle.mw_commands.specs.Commands.Subproofs.{proofs_within, each_within, distinct_proofs}
use Rattle.mw_commands.specs.Commands.Slice.{some_passes}
use Rattle.mw_commands.specs.Commands.Log.{naturals_of, formula_numbered, formulas_numbered, formulas_at, conclusion, and_conclusions, conclusions_after, conclusions, Yes, Entry, numbers_of, entry_with, entry_by, entry_of, is_that_formula, are_concluded, answer_to_goal, answer_to_demand, answer_to_steps, answer_to_entry, logged}
use Rattle.mw_commands.specs.Commands.Flattening.{number_among, numbers_among, step_datum, flat_event_by, flat_event, is_logged_word}
use Rattle.mw_commands.proofs.ObligationsReadable.{each_of_firsts}
use Rattle.mw_commands.proofs.WantedFormulas.{wanted_readable}
use Rattle.mw_commands.proofs.Logs.{car_in_range, cdr_in_range, second_in_range, third_in_range, fourth_in_range, sixth_in_range, pair_in_range}
use Rattle.mw_commands.proofs.LogAccepted.{conclusion_is, same_demand, same_word, stays_in_range, happens_as}

-- ---- lists of proofs

abbrev is_in : Object → List Object → Bool
is_in x ys = some_passes (λ y. same_object y x) ys

-- the members of a list, and whether each of them is among others
abbrev members_in : Object → List Object → Bool
members_in (Pair q qs) ys = is_in q ys && members_in qs ys
members_in (Natural n) ys = true
members_in (Symbol s) ys = true

-- each proof of a list comes after its subproofs, of which some may stand before the list
abbrev Ordered : List Object → List Object → Type 0
Ordered before [] = Unit {0}
Ordered before (p ∷ ps) = (members_in (third_of p) before ≡ true) × Ordered (before ++ p ∷ []) ps

abbrev AllIn : List Object → List Object → Type 0
AllIn xs ys = (x : Object) → is_in x xs ≡ true → is_in x ys ≡ true

in_left : (x : Object) (xs ys : List Object) → is_in x xs ≡ true → is_in x (xs ++ ys) ≡ true
in_left x [] ys h = cc
in_left x (y ∷ xs) ys h = go (or_cases (same_object y x) (is_in x xs) h) (in_left x xs ys)
  where
    go : (same_object y x ≡ true) ⊎ (is_in x xs ≡ true) → (is_in x xs ≡ true → is_in x (xs ++ ys) ≡ true) → (same_object y x || is_in x (xs ++ ys)) ≡ true
    go (inl p) ih = or_left (same_object y x) (is_in x (xs ++ ys)) p
    go (inr p) ih = or_right (same_object y x) (is_in x (xs ++ ys)) (ih p)

in_right : (x : Object) (xs ys : List Object) → is_in x ys ≡ true → is_in x (xs ++ ys) ≡ true
in_right x [] ys h = h
in_right x (y ∷ xs) ys h = or_right (same_object y x) (is_in x (xs ++ ys)) (in_right x xs ys h)

in_parts : (x : Object) (xs ys : List Object) → is_in x (xs ++ ys) ≡ true → (is_in x xs ≡ true) ⊎ (is_in x ys ≡ true)
in_parts x [] ys h = inr h
in_parts x (y ∷ xs) ys h = go (or_cases (same_object y x) (is_in x (xs ++ ys)) h) (in_parts x xs ys)
  where
    go : (same_object y x ≡ true) ⊎ (is_in x (xs ++ ys) ≡ true) → (is_in x (xs ++ ys) ≡ true → (is_in x xs ≡ true) ⊎ (is_in x ys ≡ true)) → ((same_object y x || is_in x xs) ≡ true) ⊎ (is_in x ys ≡ true)
    go (inl p) ih = inl (or_left (same_object y x) (is_in x xs) p)
    go (inr p) ih = elim (ih p) as (λ o. ((same_object y x || is_in x xs) ≡ true) ⊎ (is_in x ys ≡ true)) [ inl q ↦ inl (or_right (same_object y x) (is_in x xs) q) | inr q ↦ inr q ]

in_last : (x : Object) (xs : List Object) → is_in x (xs ++ x ∷ []) ≡ true
in_last x xs = in_right x xs (x ∷ []) (or_left (same_object x x) false (same_object-refl x))

in_either : (xs ys zs : List Object) → AllIn xs zs → AllIn ys zs → AllIn (xs ++ ys) zs
in_either xs ys zs f g x h = elim (in_parts x xs ys h) as (λ o. is_in x zs ≡ true) [ inl p ↦ f x p | inr p ↦ g x p ]

one_in : (y : Object) (zs : List Object) → is_in y zs ≡ true → AllIn (y ∷ []) zs
one_in y zs h x k = go (or_cases (same_object y x) false k)
  where
    go : (same_object y x ≡ true) ⊎ (false ≡ true) → is_in x zs ≡ true
    go (inl p) = subst (λ z. is_in z zs ≡ true) (same_object-eq y x p) h
    go (inr p) = cc

members_weaker : (l : Object) (xs ys : List Object) → AllIn xs ys → members_in l xs ≡ true → members_in l ys ≡ true
members_weaker (Pair q qs) xs ys f h = let p = and_parts (is_in q xs) (members_in qs xs) h in and_from (is_in q ys) (members_in qs ys) (f q p.0) (members_weaker qs xs ys f p.1)
members_weaker (Natural n) xs ys f h = refl
members_weaker (Symbol s) xs ys f h = refl

ordered_weaker : (xs ys ps : List Object) → AllIn xs ys → Ordered xs ps → Ordered ys ps
ordered_weaker xs ys [] f h = tt
ordered_weaker xs ys (p ∷ ps) f h =
    (members_weaker (third_of p) xs ys f h.0, ordered_weaker (xs ++ p ∷ []) (ys ++ p ∷ []) ps (in_either xs (p ∷ []) (ys ++ p ∷ []) (λ x k. in_left x ys (p ∷ []) (f x k)) (λ x k. in_right x ys (p ∷ []) k)) h.1)

ordered_both : (before ps qs : List Object) → Ordered before ps → Ordered (before ++ ps) qs → Ordered before (ps ++ qs)
ordered_both before [] qs h k = subst (λ z. Ordered z qs) (append-nil before) k
ordered_both before (p ∷ ps) qs h k = (h.0, ordered_both (before ++ p ∷ []) ps qs h.1 (subst (λ z. Ordered z qs) (sym (append_assoc before (p ∷ []) ps)) k))

-- a proof stands among what it is made of
itself : (p : Object) → is_in p (proofs_within p) ≡ true
itself (Pair m (Pair c (Pair ps x))) = in_last (Pair m (Pair c (Pair ps x))) (each_within ps)
itself (Pair m (Pair c (Natural n))) = or_left (same_object (Pair m (Pair c (Natural n))) (Pair m (Pair c (Natural n)))) false (same_object-refl (Pair m (Pair c (Natural n))))
itself (Pair m (Pair c (Symbol s))) = or_left (same_object (Pair m (Pair c (Symbol s))) (Pair m (Pair c (Symbol s)))) false (same_object-refl (Pair m (Pair c (Symbol s))))
itself (Pair m (Natural n)) = or_left (same_object (Pair m (Natural n)) (Pair m (Natural n))) false (same_object-refl (Pair m (Natural n)))
itself (Pair m (Symbol s)) = or_left (same_object (Pair m (Symbol s)) (Pair m (Symbol s))) false (same_object-refl (Pair m (Symbol s)))
itself (Natural n) = or_left (same_object (Natural n) (Natural n)) false (same_object-refl (Natural n))
itself (Symbol s) = or_left (same_object (Symbol s) (Symbol s)) false (same_object-refl (Symbol s))

all_members : (ps : Object) → members_in ps (each_within ps) ≡ true
all_members (Pair p ps) =
    and_from (is_in p (proofs_within p ++ each_within ps)) (members_in ps (proofs_within p ++ each_within ps)) (in_left p (proofs_within p) (each_within ps) (itself p))
    (members_weaker ps (each_within ps) (proofs_within p ++ each_within ps) (λ x h. in_right x (proofs_within p) (each_within ps) h) (all_members ps))
all_members (Natural n) = refl
all_members (Symbol s) = refl

mutual
  within_ordered : (before : List Object) (p : Object) → Ordered before (proofs_within p)
  within_ordered before (Pair m (Pair c (Pair ps x))) =
      ordered_both before (each_within ps) (Pair m (Pair c (Pair ps x)) ∷ []) (each_ordered before ps)
      (members_weaker ps (each_within ps) (before ++ each_within ps) (λ y h. in_right y before (each_within ps) h) (all_members ps), tt)
  within_ordered before (Pair m (Pair c (Natural n))) = (refl, tt)
  within_ordered before (Pair m (Pair c (Symbol s))) = (refl, tt)
  within_ordered before (Pair m (Natural n)) = (refl, tt)
  within_ordered before (Pair m (Symbol s)) = (refl, tt)
  within_ordered before (Natural n) = (refl, tt)
  within_ordered before (Symbol s) = (refl, tt)

  each_ordered : (before : List Object) (ps : Object) → Ordered before (each_within ps)
  each_ordered before (Pair p ps) = ordered_both before (proofs_within p) (each_within ps) (within_ordered before p) (each_ordered (before ++ proofs_within p) ps)
  each_ordered before (Natural n) = tt
  each_ordered before (Symbol s) = tt

-- where x is there already, it may be left out
filtered_ordered : (x : Object) (before ps : List Object) → is_in x before ≡ true → Ordered before ps → Ordered before (filter (λ y. not (same_object x y)) ps)
filtered_ordered x before [] i h = tt
filtered_ordered x before (p ∷ ps) i h = go (same_object x p) refl (filtered_ordered x (before ++ p ∷ []) ps (in_left x before (p ∷ []) i) h.1) (λ k. filtered_ordered x before ps i k)
  where
    go : (b : Bool) → same_object x p ≡ b → Ordered (before ++ p ∷ []) (filter (λ y. not (same_object x y)) ps) → (Ordered before ps → Ordered before (filter (λ y. not (same_object x y)) ps)) → Ordered before (cond (not b) (p ∷ filter (λ y. not (same_object x y)) ps) (filter (λ y. not (same_object x y)) ps))
    go true e k ih =
        let there : is_in p before ≡ true = subst (λ z. is_in z before ≡ true) (same_object-eq x p e) i in
        ih (ordered_weaker (before ++ p ∷ []) before ps (in_either before (p ∷ []) before (λ y j. j) (one_in p before there)) h.1)
    go false e k ih = (h.0, k)

firsts_ordered : (before ps : List Object) → Ordered before ps → Ordered before (firsts same_object ps)
firsts_ordered before [] h = tt
firsts_ordered before (p ∷ ps) h = (h.0, filtered_ordered p (before ++ p ∷ []) (firsts same_object ps) (in_last p before) (firsts_ordered (before ++ p ∷ []) ps h.1))

distinct_ordered : (ps : Object) → Ordered [] (distinct_proofs ps)
distinct_ordered ps = firsts_ordered [] (each_within ps) (each_ordered [] ps)

-- ---- all of them are proofs

each_both : {X : Type 0} (P : X → Type 0) (xs ys : List X) → Each P xs → Each P ys → Each P (xs ++ ys)
each_both P [] ys h k = k
each_both P (x ∷ xs) ys h k = (h.0, each_both P xs ys h.1 k)

module _ (ax th : Object) (A : ArityTable) (P : Profile) where
  -- a proof, with its formula, that an event may hold
  record IsProof (p : Object) : Type 0 where
    formula : Formula
    proves : Proves ax th A P p formula
    in_range : is_out_of_range p ≡ false

  one_formula : (p : Object) (F G : Formula) → Proves ax th A P p F → Proves ax th A P p G → F ≡ G
  one_formula p F G f g = some_one (sym (good_judge ax th A P p F f).1 ∙ (good_judge ax th A P p G g).1)

  -- the parts of a proof
  third_is : (p m c ps x : Object) → HasMembers p m c ps x → third_of p ≡ ps
  third_is p m c ps x (two a b) = refl
  third_is p m c ps x (three a b d) = refl
  third_is p m c ps x (four a b d y) = refl

  method_is : (p m c ps x : Object) → HasMembers p m c ps x → car p ≡ m
  method_is p m c ps x (two a b) = refl
  method_is p m c ps x (three a b d) = refl
  method_is p m c ps x (four a b d y) = refl

  second_is : (p m c ps x : Object) → HasMembers p m c ps x → second_of p ≡ c
  second_is p m c ps x (two a b) = refl
  second_is p m c ps x (three a b d) = refl
  second_is p m c ps x (four a b d y) = refl

  fourth_is : (p m c ps x : Object) → HasMembers p m c ps x → fourth_of p ≡ x
  fourth_is p m c ps x (two a b) = refl
  fourth_is p m c ps x (three a b d) = refl
  fourth_is p m c ps x (four a b d y) = refl

  by_members : (q m c ps x : Object) (G : Formula) → HasMembers q m c ps x → Proves ax th A P q G → is_out_of_range q ≡ false → (is_out_of_range ps ≡ false → Each IsProof (each_within ps)) → Each IsProof (proofs_within q)
  by_members q m c ps x G (two a b) g h f = (record { formula = G; proves = g; in_range = h }, tt)
  by_members q m c ps x G (three a b d) g h f = each_both IsProof (each_within d) (list3 a b d ∷ []) (f (third_in_range (list3 a b d) h)) (record { formula = G; proves = g; in_range = h }, tt)
  by_members q m c ps x G (four a b d y) g h f = each_both IsProof (each_within d) (list4 a b d y ∷ []) (f (third_in_range (list4 a b d y) h)) (record { formula = G; proves = g; in_range = h }, tt)

  mutual
    within_proofs : (p : Object) (F : Formula) → Proves ax th A P p F → is_out_of_range p ≡ false → Each IsProof (proofs_within p)
    within_proofs p F (proof q ps x m G Fs mem i gs row) h = by_members q (Symbol (method_name m)) (formula_object G) ps x G mem (proof q ps x m G Fs mem i gs row) h (λ k. each_proofs ps Fs gs k)

    each_proofs : (ps : Object) (Fs : List Formula) → ProveEach ax th A P ps Fs → is_out_of_range ps ≡ false → Each IsProof (each_within ps)
    each_proofs ps Fs no_proofs h = tt
    each_proofs ps Fs (more_proofs p qs F Gs g gs) h =
        each_both IsProof (proofs_within p) (each_within qs) (within_proofs p F g (car_in_range (Pair p qs) h)) (each_proofs qs Gs gs (cdr_in_range (Pair p qs) h))

  distinct_are_proofs : (ps : Object) (Fs : List Formula) → ProveEach ax th A P ps Fs → is_out_of_range ps ≡ false → Each IsProof (distinct_proofs ps)
  distinct_are_proofs ps Fs g h = each_of_firsts IsProof same_object (each_within ps) (each_proofs ps Fs g h)

  formulas : (ps : List Object) → Each IsProof ps → List Formula
  formulas [] h = []
  formulas (p ∷ ps) h = h.0.formula ∷ formulas ps h.1

  formulas_length : (ps : List Object) (h : Each IsProof ps) → length (formulas ps h) ≡ length ps
  unfolding formulas
  formulas_length [] h = refl
  formulas_length (p ∷ ps) h = ap suc (formulas_length ps h.1)

  formulas_both : (ps qs : List Object) (h : Each IsProof ps) (k : Each IsProof qs) → formulas (ps ++ qs) (each_both IsProof ps qs h k) ≡ formulas ps h ++ formulas qs k
  unfolding formulas each_both
  formulas_both [] qs h k = refl
  formulas_both (p ∷ ps) qs h k = ap (λ z. h.0.formula ∷ z) (formulas_both ps qs h.1 k)

  -- ---- numbers among them

  -- the number of a proof among others, of which it is one, is that of its formula
  number_right : (front back : List Object) (h : Each IsProof front) (p : Object) (F : Formula) → Proves ax th A P p F → is_in p front ≡ true → (k : ℕ) × (number_among (front ++ back) p ≡ suc k) × (k < length front) × (formula_numbered (formulas front h) (suc k) ≡ Some F)
  unfolding formulas
  number_right [] back h p F g i = cc
  number_right (q ∷ front) back h p F g i = go (same_object q p) refl i (number_right front back h.1 p F g)
    where
      go : (b : Bool) → same_object q p ≡ b → (b || is_in p front) ≡ true → (is_in p front ≡ true → (k : ℕ) × (number_among (front ++ back) p ≡ suc k) × (k < length front) × (formula_numbered (formulas front h.1) (suc k) ≡ Some F)) → (k : ℕ) × (cond b 1 (suc (number_among (front ++ back) p)) ≡ suc k) × (k < suc (length front)) × (formula_numbered (h.0.formula ∷ formulas front h.1) (suc k) ≡ Some F)
      go true e j ih = (0, refl, omega arith, ap Some (one_formula q h.0.formula F h.0.proves (subst (λ z. Proves ax th A P z F) (sym (same_object-eq q p e)) g)))
      go false e j ih = let r = ih j in (suc r.0, ap suc r.1, omega (arith, r.2), r.3)

  number_small : (k n : ℕ) → suc k ≤ n → n < range → is_out_of_range (Natural (suc k)) ≡ false
  number_small k n h l = ap not (lt-ltb (suc k) range (omega arith))

  -- those of a list of proofs
  record Numbers (Fs : List Formula) (list : Object) (Gs : List Formula) : Type 0 where
    numbers : List ℕ
    read : naturals_of list ≡ Some numbers
    right : formulas_numbered Fs numbers ≡ Some Gs
    in_range : is_out_of_range list ≡ false

  numbers_right : (front back : List Object) (h : Each IsProof front) (l : Object) (Gs : List Formula) → length front < range → ProveEach ax th A P l Gs → members_in l front ≡ true → Numbers (formulas front h) (numbers_among (front ++ back) l) Gs
  numbers_right front back h l Gs s no_proofs i = record { numbers = []; read = refl; right = refl; in_range = refl }
  numbers_right front back h l Gs s (more_proofs p ps F Fs g gs) i =
      let j = and_parts (is_in p front) (members_in ps front) i in
      let n = number_right front back h p F g j.0 in
      let r = numbers_right front back h ps Fs s gs j.1 in
      record {
        numbers = suc n.0 ∷ r.numbers;
        read = ap (λ k. and_more (Some k) (naturals_of (numbers_among (front ++ back) ps))) n.1 ∙ ap (and_more (Some (suc n.0))) r.read;
        right = ap₂ and_more n.3 r.right;
        in_range = pair_in_range (Natural (number_among (front ++ back) p)) (numbers_among (front ++ back) ps) (ap (λ k. is_out_of_range (Natural k)) n.1 ∙ number_small n.0 (length front) (omega (arith, n.2)) s) r.in_range;
      }

  -- ---- the steps

  step_in_range : (n c d ns x : Object) → is_out_of_range n ≡ false → is_out_of_range c ≡ false → is_out_of_range d ≡ false → is_out_of_range ns ≡ false → is_out_of_range x ≡ false → is_out_of_range (Pair (symbol "STEP") (Pair n (list4 c d ns x))) ≡ false
  step_in_range n c d ns x h i j k l =
      pair_in_range n (list4 c d ns x) h (pair_in_range c (list3 d ns x) i (pair_in_range d (list2 ns x) j (pair_in_range ns (list1 x) k (pair_in_range x NIL l refl))))

  step_good : (front back : List Object) (h : Each IsProof front) (p : Object) (F : Formula) → Proves ax th A P p F → is_out_of_range p ≡ false → suc (length front) < range → members_in (third_of p) front ≡ true → conclusion ax th A P (formulas front h) (step_datum (front ++ back) (suc (length front), p)) ≡ Some F
  step_good front back h p F (proof q ps x m G Gs mem j gs row) r s i =
      let Fs = formulas front h in
      let whole = step_datum (front ++ back) (suc (length front), q) in
      let third = third_is q (Symbol (method_name m)) (formula_object G) ps x mem in
      let N = numbers_right front back h ps Gs (omega arith) gs (subst (λ z. members_in z front ≡ true) third i) in
      let numbers : naturals_of (numbers_among (front ++ back) (third_of q)) ≡ Some N.numbers = ap (λ z. naturals_of (numbers_among (front ++ back) z)) third ∙ N.read in
      let in_range : is_out_of_range whole ≡ false =
      step_in_range (Natural (suc (length front))) (car q) (second_of q) (numbers_among (front ++ back) (third_of q)) (fourth_of q) (number_small (length front) (suc (length front)) (omega arith) s) (car_in_range q r) (second_in_range q r)
      (subst (λ z. is_out_of_range (numbers_among (front ++ back) z) ≡ false) (sym third) N.in_range) (fourth_in_range q r) in
      let number : eqb (suc (length front)) (length Fs + 1) ≡ true = eq-eqb (suc (length front)) (length Fs + 1) (omega (arith, formulas_length front h)) in
      let inner = judge_step ax th A P (method_among methods (car q)) (formula_of (second_of q)) (formulas_at Fs (naturals_of (numbers_among (front ++ back) (third_of q)))) (fourth_of q) in
      let judged : inner ≡ Some G =
      ap (λ z. judge_step ax th A P (method_among methods z) (formula_of (second_of q)) (formulas_at Fs (naturals_of (numbers_among (front ++ back) (third_of q)))) (fourth_of q)) (method_is q (Symbol (method_name m)) (formula_object G) ps x mem)
      ∙ (ap (λ z. judge_step ax th A P z (formula_of (second_of q)) (formulas_at Fs (naturals_of (numbers_among (front ++ back) (third_of q)))) (fourth_of q)) (method_back m)
      ∙ (ap (λ z. judge_step ax th A P (Some m) (formula_of z) (formulas_at Fs (naturals_of (numbers_among (front ++ back) (third_of q)))) (fourth_of q)) (second_is q (Symbol (method_name m)) (formula_object G) ps x mem)
      ∙ (ap (λ z. judge_step ax th A P (Some m) z (formulas_at Fs (naturals_of (numbers_among (front ++ back) (third_of q)))) (fourth_of q)) (formula_read A G j)
      ∙ (ap (λ z. judge_step ax th A P (Some m) (Some G) (formulas_at Fs z) (fourth_of q)) numbers
      ∙ (ap (λ z. judge_step ax th A P (Some m) (Some G) z (fourth_of q)) N.right
      ∙ (ap (λ z. judge_step ax th A P (Some m) (Some G) (Some Gs) z) (fourth_is q (Symbol (method_name m)) (formula_object G) ps x mem)
      ∙ ap (λ b. when b (Some G)) (and_from (is_formula A G) (follows ax th A P m G Gs x) j (row_holds ax th A P m G Gs x row j (goods_judge ax th A P ps Gs gs).0)))))))) in
      ap (λ b. when b inner) (and_from (has_members 6 whole) (not (is_out_of_range whole) && same_object (second_of whole) (Natural (length Fs + 1))) refl (and_from (not (is_out_of_range whole)) (same_object (second_of whole) (Natural (length Fs + 1))) (ap not in_range) number)) ∙ judged

  steps_good : (front back : List Object) (h : Each IsProof front) (k : Each IsProof back) → length front + length back < range → Ordered front back → conclusions_after ax th A P (map (step_datum (front ++ back)) (numbered (suc (length front)) back)) (formulas front h) ≡ Some (formulas front h ++ formulas back k)
  unfolding formulas
  steps_good front [] h k s o = ap Some (sym (append-nil (formulas front h)))
  steps_good front (p ∷ back) h k s o =
      let longer = each_both IsProof front (p ∷ []) h (k.0, tt) in
      let one : formulas front h ++ k.0.formula ∷ [] ≡ formulas (front ++ p ∷ []) longer = sym (formulas_both front (p ∷ []) h (k.0, tt)) in
      let more = steps_good (front ++ p ∷ []) back longer k.1 (omega (arith, length-append front (p ∷ []))) o.1 in
      let rest : List Formula → Option (List Formula) = conclusions_after ax th A P (map (step_datum (front ++ p ∷ back)) (numbered (suc (suc (length front))) back)) in
      let same : length (front ++ p ∷ []) ≡ suc (length front) = length-append front (p ∷ []) ∙ omega arith in
      ap (and_conclusions rest (formulas front h)) (step_good front (p ∷ back) h p k.0.formula k.0.proves k.0.in_range (omega arith) o.0)
      ∙ (ap rest one
      ∙ (ap₂ (λ qs n. conclusions_after ax th A P (map (step_datum qs) (numbered (suc n) back)) (formulas (front ++ p ∷ []) longer)) (sym (append_assoc front (p ∷ []) back)) (sym same)
      ∙ (more ∙ ap Some (ap (λ z. z ++ formulas back k.1) (sym one) ∙ append_assoc (formulas front h) (k.0.formula ∷ []) (formulas back k.1)))))

-- ---- members stay among the distinct ones

in_filtered : (y x : Object) (zs : List Object) → same_object y x ≡ false → is_in x zs ≡ true → is_in x (filter (λ z. not (same_object y z)) zs) ≡ true
in_filtered y x [] d h = cc
in_filtered y x (z ∷ zs) d h = go (same_object y z) refl (or_cases (same_object z x) (is_in x zs) h) (in_filtered y x zs d)
  where
    go : (b : Bool) → same_object y z ≡ b → (same_object z x ≡ true) ⊎ (is_in x zs ≡ true) → (is_in x zs ≡ true → is_in x (filter (λ u. not (same_object y u)) zs) ≡ true) → is_in x (cond (not b) (z ∷ filter (λ u. not (same_object y u)) zs) (filter (λ u. not (same_object y u)) zs)) ≡ true
    go true e (inl p) ih = absurd (true≢false (sym (subst (λ u. same_object y u ≡ true) (same_object-eq z x p) e) ∙ d))
    go true e (inr p) ih = ih p
    go false e (inl p) ih = or_left (same_object z x) (is_in x (filter (λ u. not (same_object y u)) zs)) p
    go false e (inr p) ih = or_right (same_object z x) (is_in x (filter (λ u. not (same_object y u)) zs)) (ih p)

in_firsts : (ys : List Object) → AllIn ys (firsts same_object ys)
in_firsts [] x h = h
in_firsts (y ∷ ys) x h = go (same_object y x) refl h (in_firsts ys x)
  where
    go : (b : Bool) → same_object y x ≡ b → (b || is_in x ys) ≡ true → (is_in x ys ≡ true → is_in x (firsts same_object ys) ≡ true) → (b || is_in x (filter (λ z. not (same_object y z)) (firsts same_object ys))) ≡ true
    go true e k ih = refl
    go false e k ih = in_filtered y x (firsts same_object ys) e (ih k)

members_distinct : (ps : Object) → members_in ps (distinct_proofs ps) ≡ true
members_distinct ps = members_weaker ps (each_within ps) (distinct_proofs ps) (in_firsts (each_within ps)) (all_members ps)

-- ---- what an acceptance comes from

refusal_is_none : (t next : Theory) (r : Refusal) → refuse t r ≡ accept next → ⊥
refusal_is_none t next r h = let k : Refused r ≡ Accepted [] = ap (λ z. z.0) h in cc

need_accepts : {X : Type 0} (t next : Theory) (r : Refusal) (o : Option X) (f : X → Fate × Theory) → need t r o f ≡ accept next → (x : X) × (o ≡ Some x) × (f x ≡ accept next)
unfolding need
need_accepts t next r None f h = absurd (refusal_is_none t next r h)
need_accepts t next r (Some x) f h = (x, refl, h)

must_accepts : (t next : Theory) (r : Refusal) (b : Bool) (f : Fate × Theory) → must t r b f ≡ accept next → (b ≡ true) × (f ≡ accept next)
unfolding must
must_accepts t next r true f h = (refl, h)
must_accepts t next r false f h = absurd (refusal_is_none t next r h)

unless_accepts : (t next : Theory) (o : Option Refusal) (f : Fate × Theory) → unless t o f ≡ accept next → (o ≡ None) × (f ≡ accept next)
unfolding unless
unless_accepts t next None f h = (refl, h)
unless_accepts t next (Some r) f h = absurd (refusal_is_none t next r h)

record Settled (t : Theory) (N : ℕ) (ps : Object) (d : Demand) (next : Theory) : Type 0 where
  wanted : List Formula
  wants : d ≡ Wants wanted next
  many : has_members (length wanted) ps ≡ true
  judged_all : each_judged judged_as t N wanted ps ≡ None

settled_accepts : (t next : Theory) (N : ℕ) (ps : Object) (d : Demand) → settled judged_as t N ps d ≡ accept next → Settled t N ps d next
settled_accepts t next N ps (Denied r) h = absurd (refusal_is_none t next r h)
settled_accepts t next N ps (Wants wanted new) h =
    let a = must_accepts t next COUNT (has_members (length wanted) ps) (unless t (each_judged judged_as t N wanted ps) (accept new)) h in
    let b = unless_accepts t next (each_judged judged_as t N wanted ps) (accept new) a.1 in
    record { wanted = wanted; wants = ap (Wants wanted) (ap (λ z. z.1) b.1); many = a.0; judged_all = b.0 }

or_none : (o r : Option Refusal) → option_or o r ≡ None → (o ≡ None) × (r ≡ None)
or_none None r h = (refl, h)
or_none (Some q) r h = cc

no_conclusion : (b : Bool) (o : Option Refusal) → cond b o (Some CONCLUSION) ≡ None → (b ≡ true) × (o ≡ None)
no_conclusion true o h = (refl, h)
no_conclusion false o h = cc

some_formula : (o : Option Formula) → no_unless PROOF o ≡ None → (F : Formula) × (o ≡ Some F)
some_formula None h = cc
some_formula (Some F) h = (F, refl)

module _ (t : Theory) (N : ℕ) (built_in : t.checker ≡ None) where
  abbrev A : ArityTable
  A = arity_table t.definitions

  abbrev Good : Object → Formula → Type 0
  Good p F = Proves t.axioms t.theorems A t.definitions.profile p F

  judged_good : (p : Object) (F : Formula) → ReadableFormula F → judged_as t N F p ≡ None → Good p F
  judged_good p F i h =
      let a = no_conclusion (same_object (second_of p) (formula_object F)) (judged_by t.checker t p N) h in
      let b = some_formula (judge t.axioms t.theorems A t.definitions.profile p) (sym (ap (λ f. judged_by f t p N) built_in) ∙ a.1) in
      let g = judge_good t.axioms t.theorems A t.definitions.profile p b.0 b.1 in
      let j = (good_judge t.axioms t.theorems A t.definitions.profile p b.0 g).0 in
      let e : b.0 ≡ F = formula_object-one b.0 F (formula_readable A b.0 j) i (sym (conclusion_is t.axioms t.theorems A t.definitions.profile p b.0 g) ∙ same_object-eq (second_of p) (formula_object F) a.0) in
      subst (Good p) e g

  all_good : (Fs : List Formula) (ps : Object) → Each ReadableFormula Fs → has_members (length Fs) ps ≡ true → each_judged judged_as t N Fs ps ≡ None → ProveEach t.axioms t.theorems A t.definitions.profile ps Fs
  all_good [] ps i m h = subst (λ z. ProveEach t.axioms t.theorems A t.definitions.profile z []) (sym (same_object-eq ps NIL m)) no_proofs
  all_good (F ∷ Fs) (Pair p ps) i m h =
      let a = or_none (judged_as t N F p) (each_judged judged_as t N Fs ps) h in more_proofs p ps F Fs (judged_good p F i.0 a.0) (all_good Fs ps i.1 m a.1)
  all_good (F ∷ Fs) (Natural n) i m h = cc
  all_good (F ∷ Fs) (Symbol s) i m h = cc

  pub by_settling : (w : EventWord) (e : Object) → is_logged_word (Some w) ≡ true → happens_by_under judged_as w t N e ≡ settled judged_as t N (proofs_of w e) (demand w t e)
  by_settling Verify e h = refl
  by_settling Define e h = refl
  by_settling DefineAll e h = refl
  by_settling Skolem e h = refl
  by_settling SetProfile e h = refl
  by_settling Switch e h = cc
  by_settling Eval e h = cc
  by_settling Print e h = cc

  proofs_in_range : (w : EventWord) (e : Object) → is_out_of_range e ≡ false → is_out_of_range (proofs_of w e) ≡ false
  proofs_in_range Verify e h = pair_in_range (fourth_of e) NIL (fourth_in_range e h) refl
  proofs_in_range Define e h = sixth_in_range e h
  proofs_in_range DefineAll e h = third_in_range e h
  proofs_in_range Skolem e h = refl
  proofs_in_range SetProfile e h = refl
  proofs_in_range Switch e h = refl
  proofs_in_range Eval e h = refl
  proofs_in_range Print e h = refl

  drafts_present : (o : Option (List Draft)) (wanted : List Formula) (next : Theory) → wants_some EVENT o (define_demand t) ≡ Wants wanted next → is_some o ≡ true
  drafts_present None wanted next h = cc
  drafts_present (Some ds) wanted next h = refl

  numbers_read : (w : EventWord) (e : Object) (qs : List Object) (wanted : List Formula) (next : Theory) → is_logged_word (Some w) ≡ true → demand w t e ≡ Wants wanted next → numbers_of w (with_proofs w e (numbers_among qs (proofs_of w e))) ≡ naturals_of (numbers_among qs (proofs_of w e))
  numbers_read Verify e qs wanted next l h = refl
  numbers_read Define e qs wanted next l h = refl
  numbers_read DefineAll e qs wanted next l h = ap (λ b. when b (naturals_of (numbers_among qs (third_of e)))) (drafts_present (some_drafts (second_of e)) wanted next h)
  numbers_read Skolem e qs wanted next l h = refl
  numbers_read SetProfile e qs wanted next l h = refl
  numbers_read Switch e qs wanted next l h = cc
  numbers_read Eval e qs wanted next l h = cc
  numbers_read Print e qs wanted next l h = cc

are_those : (Fs : List Formula) (ns : List ℕ) (wanted : List Formula) → formulas_numbered Fs ns ≡ Some wanted → are_concluded Fs ns wanted ≡ true
are_those Fs [] wanted h = let e : [] ≡ wanted = some_one h in subst (λ z. are_concluded Fs [] z ≡ true) e refl
are_those Fs (n ∷ ns) wanted h =
    let b = and_more-back (formula_numbered Fs n) (formulas_numbered Fs ns) wanted h in
    subst (λ z. are_concluded Fs (n ∷ ns) z ≡ true) (sym b.4)
    (and_from (is_that_formula (formula_numbered Fs n) b.0) (are_concluded Fs ns b.1) (ap (λ o. is_that_formula o b.0) b.2 ∙ same_formula-refl b.0) (are_those Fs ns b.1 b.3))

-- An event that the built-in checker accepts gets a yes after its steps.
pub flat_is_logged : (t next : Theory) (N : ℕ) (e : Object) (w : EventWord) → t.checker ≡ None → event_word e ≡ Some w → is_logged_word (Some w) ≡ true → happens t N e ≡ accept next → length (distinct_proofs (proofs_of w e)) < range → logged t (map (step_datum (distinct_proofs (proofs_of w e))) (numbered 1 (distinct_proofs (proofs_of w e)))) (flat_event e) ≡ (Yes, next)
unfolding formulas
flat_is_logged t next N e w c word logged_word h few =
    let ax = t.axioms in
    let th = t.theorems in
    let A = arity_table t.definitions in
    let P = t.definitions.profile in
    let ps = proofs_of w e in
    let qs = distinct_proofs ps in
    let ns = numbers_among qs ps in
    let under = as_before t N e ∙ h in
    let r = need_accepts t next RANGE (when (not (is_out_of_range e)) (Some e)) (λ x. need t EVENT (event_word x) (λ v. happens_by_under judged_as v t N x)) under in
    let in_range : is_out_of_range e ≡ false = not-true (is_out_of_range e) (when_some (not (is_out_of_range e)) (Some e) r.0 r.1).0 in
    let settles : happens_by_under judged_as w t N e ≡ accept next = sym (happens_as t N e w in_range word) ∙ h in
    let s = settled_accepts t next N ps (demand w t e) (sym (by_settling t N c w e logged_word) ∙ settles) in
    let good = all_good t N c s.wanted ps (wanted_readable t w e s.wanted next s.wants) s.many s.judged_all in
    let proofs = distinct_are_proofs ax th A P ps s.wanted good (proofs_in_range t N c w e in_range) in
    let Fs = formulas ax th A P qs proofs in
    let steps : conclusions ax th A P (map (step_datum qs) (numbered 1 qs)) ≡ Some Fs = steps_good ax th A P [] qs tt proofs (omega arith) (distinct_ordered ps) in
    let ns_right = subst (λ z. Numbers ax th A P Fs (numbers_among z ps) s.wanted) (append-nil qs) (numbers_right ax th A P qs [] proofs ps s.wanted few good (members_distinct ps)) in
    let event = with_proofs w e ns in
    let event_in_range : is_out_of_range event ≡ false = stays_in_range w e ns in_range ns_right.in_range in
    let entry : Entry = record { word = w; numbers = ns_right.numbers } in
    let shaped : entry_of event ≡ Some entry =
    ap (λ b. when (not b) (entry_by (event_word event) event)) event_in_range
    ∙ (ap (λ o. entry_by o event) (same_word e w ns word) ∙ ap (entry_with w) (numbers_read t N c w e qs s.wanted next logged_word s.wants ∙ ns_right.read)) in
    let steps_data = map (step_datum qs) (numbered 1 qs) in
    ap (λ o. logged t steps_data (flat_event_by o e)) word
    ∙ (ap (answer_to_entry t steps_data event) shaped
    ∙ (ap (answer_to_steps t event entry) steps
    ∙ (ap (answer_to_demand t Fs ns_right.numbers) (same_demand t w e ns ∙ s.wants) ∙ ap (answer_to_goal t next) (are_those Fs ns_right.numbers s.wanted ns_right.right))))
