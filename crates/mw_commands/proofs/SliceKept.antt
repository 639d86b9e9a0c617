-- The events at the places of a slice are all accepted, one after another, where the list's events are.
use Rattle.std.proofs.Common.{◌≡◌, ℕ, zero, suc, ◌<◌, ◌≤◌, Bool, true, false, ◌&&◌, ◌||◌, cond, eqb, ltb, List, [], ◌∷◌, length, map, take, Option, Some, None, ◌⊎◌, inl, inr, refl, sym, ap, ◌∙◌, subst, arith, get_or-take}
use Rattle.std.proofs.lemmas.Bool.{and_parts, or_cases, or_parts, false≢true, cases_Bool, eqb-true, eqb-false, false_from_ne_true}
use Rattle.mw_model.specs.Terms.Object.{Object, Natural, symbol, same_object, NIL, car, second_of, third_of}
use Rattle.mw_model.specs.Values.Primitive.{One}
use Rattle.mw_model.specs.Values.Value.{pick}
use Rattle.mw_model.specs.Events.Theory.{initial}
use Rattle.mw_model.proofs.Names.{same_object-eq}
use Rattle.mw_commands.specs.Commands.Slice.{begins_with, event_at, some_passes, later_place, first_place, is_place, first_proof, occurs, without_name, first_members, names_added, theorems_named, rests_on, Needed, the_goal, the_profile, the_basis, is_idle, IsSlice}
use Rattle.mw_commands.proofs.SlicePlaces.{among, needed_below}
use Rattle.mw_commands.proofs.AllAccepted.{AllAccepted}
use Rattle.mw_commands.proofs.SliceWalk.{chosen, IsClosed, needed_accepted}
use Rattle.mw_commands.proofs.SliceIdle.{changing_accepted}
use Rattle.mw_commands.proofs.ChosenPlaces.{places_chosen}

-- ---- places that a test finds

pub record PlaceOf (test : Object → Bool) (es : List Object) (j : ℕ) : Type 0 where
  pub inside : j < length es
  pub passes : test (event_at es j) ≡ true

pub place_of : (test : Object → Bool) (es : List Object) (j : ℕ) → first_place test es ≡ Some j → PlaceOf test es j
place_of test [] j h = cc
place_of test (e ∷ es) j h = go (test e) refl h (place_of test es)
  where
    later : (o : Option ℕ) → first_place test es ≡ o → later_place o ≡ Some j → ((i : ℕ) → first_place test es ≡ Some i → PlaceOf test es i) → PlaceOf test (e ∷ es) j
    later None k i ih = cc
    later (Some n) k i ih =
        let is : suc n ≡ j = cc in
        let r = ih n k in
        subst (PlaceOf test (e ∷ es)) is (record { inside = let l = r.inside in omega arith; passes = r.passes })

    go : (b : Bool) → test e ≡ b → cond b (Some 0) (later_place (first_place test es)) ≡ Some j → ((i : ℕ) → first_place test es ≡ Some i → PlaceOf test es i) → PlaceOf test (e ∷ es) j
    go true t k ih = let is : 0 ≡ j = cc in subst (PlaceOf test (e ∷ es)) is (record { inside = omega arith; passes = t })
    go false t k ih = later (first_place test es) refl k ih

none_passes : (test : Object → Bool) (xs : List Object) (j : ℕ) → test NIL ≡ false → some_passes test xs ≡ false → test (event_at xs j) ≡ false
none_passes test [] j n h = n
none_passes test (x ∷ xs) zero n h = (or_parts (test x) (some_passes test xs) h).0
none_passes test (x ∷ xs) (suc j) n h = none_passes test xs j n (or_parts (test x) (some_passes test xs) h).1

some_member : (test : Object → Bool) (xs : List Object) → some_passes test xs ≡ true → (x : Object) × (test x ≡ true)
some_member test [] h = cc
some_member test (x ∷ xs) h = elim (or_cases (test x) (some_passes test xs) h) as (λ o. (x : Object) × (test x ≡ true)) [ inl k ↦ (x, k) | inr k ↦ some_member test xs k ]

-- ---- no needed event shows a text

-- the first member of an event that adds nothing
record AddsNothing (x : Object) : Type 0 where
  no_verify : same_object x (symbol "VERIFY") ≡ false
  no_profile : same_object x (symbol "PROFILE") ≡ false
  no_define : same_object x (symbol "DEFINE") ≡ false
  no_skolem : same_object x (symbol "SKOLEM") ≡ false
  no_all : same_object x (symbol "DEFINE-ALL") ≡ false

no_names : (e : Object) → AddsNothing (car e) → names_added e ≡ []
no_names e h =
    ap (λ b. cond (b || begins_with "SKOLEM" e) (second_of e ∷ []) (cond (begins_with "DEFINE-ALL" e) (first_members (second_of e)) [])) h.no_define
    ∙ (ap (λ b. cond b (second_of e ∷ []) (cond (begins_with "DEFINE-ALL" e) (first_members (second_of e)) [])) h.no_skolem ∙ ap (λ b. cond b (first_members (second_of e)) []) h.no_all)

is_that_place : (o : Option ℕ) (j : ℕ) → is_place o j ≡ true → o ≡ Some j
is_that_place None j h = cc
is_that_place (Some i) j h = ap Some (eqb-true i j h)

module _ (es : List Object) (goal : ℕ) (verifies : begins_with "VERIFY" (event_at es goal) ≡ true) where
  basis_adds : (i j : ℕ) → rests_on es i j ≡ true → AddsNothing (car (event_at es j)) → ⊥
  basis_adds i j r h =
      elim (or_cases (some_passes (λ f. occurs f (without_name (event_at es i))) (names_added (event_at es j))) (some_passes (λ c. is_place (first_proof es c) j) (theorems_named (event_at es i))) (and_parts (ltb j i) _ r).1) as (λ o. ⊥) [
        | inl k ↦ false≢true (ap (some_passes (λ f. occurs f (without_name (event_at es i)))) (sym (no_names (event_at es j) h)) ∙ k)
        | inr k ↦ (let c = some_member (λ c. is_place (first_proof es c) j) (theorems_named (event_at es i)) k in
            let p = place_of (λ e. begins_with "VERIFY" e && same_object (third_of e) c.0) es j (is_that_place (first_proof es c.0) j c.1) in
            false≢true (sym h.no_verify ∙ (and_parts (begins_with "VERIFY" (event_at es j)) (same_object (third_of (event_at es j)) c.0) p.passes).0))
      ]

  needed_adds : (j : ℕ) → Needed es goal j → AddsNothing (car (event_at es j)) → ⊥
  needed_adds j the_goal h = false≢true (sym h.no_verify ∙ verifies)
  needed_adds j (the_profile k l p) h = false≢true (sym h.no_profile ∙ (and_parts (begins_with "PROFILE" (event_at es k)) (same_object (second_of (event_at es k)) (Natural 2)) p).0)
  needed_adds j (the_basis i k n r) h = basis_adds i k r h

  eval_adds : AddsNothing (symbol "EVAL")
  eval_adds = record { no_verify = refl; no_profile = refl; no_define = refl; no_skolem = refl; no_all = refl }

  print_adds : AddsNothing (symbol "PRINT")
  print_adds = record { no_verify = refl; no_profile = refl; no_define = refl; no_skolem = refl; no_all = refl }

  shows_not : (j : ℕ) (x : Object) → AddsNothing x → Needed es goal j → same_object (car (event_at es j)) x ≡ false
  shows_not j x h n = false_from_ne_true (same_object (car (event_at es j)) x) (λ k. needed_adds j n (subst AddsNothing (sym (same_object-eq (car (event_at es j)) x k)) h))

  -- ---- the places of a slice

  module _ (places : List ℕ) (slice : IsSlice es goal places) where
    abbrev S : ℕ → Bool
    S j = among places j

    module _ (no_switch : some_passes (begins_with "SWITCH") (take goal es) ≡ false) where
      is_needed : (j : ℕ) → S j ≡ true → Needed es goal j
      is_needed j h = subst (λ b. pick b ((j ≤ goal) × (is_idle (event_at es j) ≡ false)) (Needed es goal j)) no_switch ((slice.just j).0 h)

      needed_is : (j : ℕ) → Needed es goal j → S j ≡ true
      needed_is j n = (slice.just j).1 (subst (λ b. pick b ((j ≤ goal) × (is_idle (event_at es j) ≡ false)) (Needed es goal j)) (sym no_switch) n)

      or_goal : (j : ℕ) → j ≤ goal → (j < goal) ⊎ (j ≡ goal)
      or_goal j l = elim (cases_Bool (eqb j goal)) as (λ o. (j < goal) ⊎ (j ≡ goal)) [ inl e ↦ inr (eqb-true j goal e) | inr e ↦ (let d = eqb-false j goal e in inl (omega arith)) ]

      no_switch_at : (j : ℕ) → j ≤ goal → begins_with "SWITCH" (event_at es j) ≡ false
      no_switch_at j l =
          elim (or_goal j l) as (λ o. begins_with "SWITCH" (event_at es j) ≡ false) [
            | inl b ↦ ap (begins_with "SWITCH") (sym (get_or-take goal es j NIL b)) ∙ none_passes (begins_with "SWITCH") (take goal es) j refl no_switch
            | inr e ↦ ap (λ i. begins_with "SWITCH" (event_at es i)) e ∙ ap (λ z. same_object z (symbol "SWITCH")) (same_object-eq (car (event_at es goal)) (symbol "VERIFY") verifies)
          ]

      is_closed : IsClosed es goal (among places)
      is_closed =
          record {
            closed = λ i j h r. needed_is j (the_basis i j (is_needed i h) r);
            bounded = λ j h. needed_below es goal j (is_needed j h);
            second = λ j l p. elim (or_goal j l) as (λ o. among places j ≡ true) [ inl b ↦ needed_is j (the_profile j b p) | inr e ↦ subst (λ i. among places i ≡ true) (sym e) (needed_is goal the_goal) ];
            no_switch = no_switch_at;
            no_show = λ j h. (shows_not j (symbol "EVAL") eval_adds (is_needed j h), shows_not j (symbol "PRINT") print_adds (is_needed j h));
          }

    module _ (switch : some_passes (begins_with "SWITCH") (take goal es) ≡ true) where
      is_changing : (j : ℕ) → S j ≡ true → (j ≤ goal) × (is_idle (event_at es j) ≡ false)
      is_changing j h = subst (λ b. pick b ((j ≤ goal) × (is_idle (event_at es j) ≡ false)) (Needed es goal j)) switch ((slice.just j).0 h)

      changing_is : (j : ℕ) → (j ≤ goal) × (is_idle (event_at es j) ≡ false) → S j ≡ true
      changing_is j n = (slice.just j).1 (subst (λ b. pick b ((j ≤ goal) × (is_idle (event_at es j) ≡ false)) (Needed es goal j)) (sym switch) n)

      idle_out : (j : ℕ) → j ≤ goal → S j ≡ false → is_idle (event_at es j) ≡ true
      idle_out j l h = elim (cases_Bool (is_idle (event_at es j))) as (λ o. is_idle (event_at es j) ≡ true) [ inl i ↦ i | inr i ↦ absurd (false≢true (sym h ∙ changing_is j (l, i))) ]

    pub places_bounded : (j : ℕ) → among places j ≡ true → j ≤ goal
    places_bounded j h =
        elim (cases_Bool (some_passes (begins_with "SWITCH") (take goal es))) as (λ o. j ≤ goal) [ inl b ↦ (is_changing b j h).0 | inr b ↦ needed_below es goal j (is_needed b j h) ]

    verify_changes : is_idle (event_at es goal) ≡ false
    verify_changes = ap (λ z. same_object z (symbol "EVAL") || (same_object z (symbol "PRINT") || (same_object z (symbol "PROFILE") && same_object (second_of (event_at es goal)) (Natural 1)))) (same_object-eq (car (event_at es goal)) (symbol "VERIFY") verifies)

    pub goal_kept : among places goal ≡ true
    goal_kept = elim (cases_Bool (some_passes (begins_with "SWITCH") (take goal es))) as (λ o. among places goal ≡ true) [ inl b ↦ changing_is b goal (omega arith, verify_changes) | inr b ↦ needed_is b goal the_goal ]

    chosen_accepted : (N : ℕ) → AllAccepted N (initial One) es → AllAccepted N (initial One) (chosen (among places) 0 es)
    chosen_accepted N a =
        elim (cases_Bool (some_passes (begins_with "SWITCH") (take goal es))) as (λ o. AllAccepted N (initial One) (chosen (among places) 0 es))
        [ inl b ↦ changing_accepted N es goal (among places) places_bounded (idle_out b) a | inr b ↦ needed_accepted N es goal (among places) (is_closed b) a ]

    pub slice_accepted : (N : ℕ) → goal < length es → AllAccepted N (initial One) es → AllAccepted N (initial One) (map (event_at es) places)
    slice_accepted N l a = subst (AllAccepted N (initial One)) (sym (places_chosen es places slice.ascending (λ j h. let m : j ≤ goal = places_bounded j h in omega arith))) (chosen_accepted N a)
