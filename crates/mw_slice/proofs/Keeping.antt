-- From the last place down: an event is kept where it is the goal, sets the second profile, or is what those kept ask for.
use Rattle.std.proofs.Common.{◌≡◌, ℕ, zero, suc, ◌-◌, ◌<◌, ◌≤◌, Bool, true, false, ◌&&◌, ◌||◌, not, cond, eqb, ltb, List, [], ◌∷◌, ◌++◌, length, reverse, take, drop, get_or, Contains, refl, sym, ap, ap₂, ◌∙◌, inl, inr, subst, arith, eqb-true, eq-eqb}
use Rattle.std.proofs.lemmas.Bool.{or_cases, or_left, or_right, lt-ltb, eqb-false}
use Rattle.std.proofs.lemmas.List.{reverse-append, length-reverse}
use Rattle.std.proofs.Math.Seq.{take-append_seam}
use Rattle.mw_model.specs.Terms.Object.{Object}
use Rattle.mw_commands.specs.Commands.Slice.{begins_with, event_at, some_passes, occurs, without_name, names_added, theorems_named, first_proof, is_place, rests_on, sets_profile, is_idle}
use Rattle.mw_commands.proofs.SlicePlaces.{is_wanted, changes, collected, places_by, slice_places}
use Rattle.mw_heap.specs.Objects.{Grows}
use Rattle.mw_slice.specs.Firsts.{AreFirsts, IsIndex}
use Rattle.mw_slice.specs.declared.added.Added.{Added}
use Rattle.mw_slice.specs.declared.basis.Basis.{Basis}
use Rattle.mw_slice.specs.declared.part.Part.{Part}
use Rattle.mw_slice.specs.Heaps.{object_in}
use Rattle.mw_slice.specs.Events.{objects_of}
use Rattle.mw_slice.proofs.Growing.{some_passes-same, notes_grow, event_asks-grows, basis_grows}
use Rattle.mw_slice.specs.Supports.{Support, Named, Proved, has, notes, names_place, event_asks, is_asked_for, IsBasis}

pub event_at-objects_of : (hs : List (List Object)) (added : List Added) (i : ℕ) (d : Added) → i < length added → event_at (objects_of hs added) i ≡ object_in hs (get_or added i d)
event_at-objects_of hs [] i d h = absurd (omega arith)
event_at-objects_of hs (a ∷ added) zero d h = refl
event_at-objects_of hs (a ∷ added) (suc i) d h = event_at-objects_of hs added i d (omega arith)

-- ---- one place after another

reverse-push : (places : List ℕ) (j : ℕ) → reverse (places ++ j ∷ []) ≡ j ∷ reverse places
reverse-push places j = reverse-append places (j ∷ [])

module _ (test : List ℕ → ℕ → Bool) (n : ℕ) (some : 0 < n) (above : List ℕ) where
  collected-next : (b : Bool) → test above (n - 1) ≡ b → collected test n above ≡ collected test (n - 1) (cond b ((n - 1) ∷ above) above)
  collected-next b e =
      let down : n ≡ suc (n - 1) = omega arith in
      ap (λ m. collected test m above) down ∙ ap (λ c. collected test (n - 1) (cond c ((n - 1) ∷ above) above)) e

module _ (test : List ℕ → ℕ → Bool) (n : ℕ) (some : 0 < n) (places : List ℕ) (whole : List ℕ) (collects : collected test n (reverse places) ≡ whole) where
  pub place_passed : test (reverse places) (n - 1) ≡ false → collected test (n - 1) (reverse places) ≡ whole
  place_passed e = sym (collected-next test n some (reverse places) false e) ∙ collects

  pub place_kept : (new : List ℕ) → test (reverse places) (n - 1) ≡ true → new ≡ places ++ (n - 1) ∷ [] → collected test (n - 1) (reverse new) ≡ whole
  place_kept new e f = ap (λ l. collected test (n - 1) l) (ap reverse f ∙ reverse-push places (n - 1)) ∙ (sym (collected-next test n some (reverse places) true e) ∙ collects)

pub all_collected : (test : List ℕ → ℕ → Bool) (n : ℕ) (above whole : List ℕ) → n ≤ 0 → collected test n above ≡ whole → above ≡ whole
all_collected test n above whole h e = let none : 0 ≡ n = omega arith in ap (λ m. collected test m above) none ∙ e

module _ (es : List Object) (n : ℕ) (some : 0 < n) (places new : List ℕ) (whole : List ℕ) (collects : collected (changes es) n (reverse places) ≡ whole) (e : Object) (is : event_at es (n - 1) ≡ e) (pushed : new ≡ cond (is_idle e) places (places ++ (n - 1) ∷ [])) where
  pub changing_goes : collected (changes es) (n - 1) (reverse new) ≡ whole
  changing_goes = go (is_idle e) (ap is_idle is) pushed
    where
      go : (b : Bool) → is_idle (event_at es (n - 1)) ≡ b → new ≡ cond b places (places ++ (n - 1) ∷ []) → collected (changes es) (n - 1) (reverse new) ≡ whole
      go true b same = ap (λ l. collected (changes es) (n - 1) (reverse l)) same ∙ place_passed (changes es) n some places whole collects (ap not b)
      go false b longer = place_kept (changes es) n some places whole collects new (ap not b) longer

-- ---- what passes among several

-- tests that agree on the members
some_passes-among : {X : Type 0} (f g : X → Bool) (xs : List X) → ((x : X) → Contains xs x → f x ≡ g x) → some_passes f xs ≡ some_passes g xs
some_passes-among f g [] h = refl
some_passes-among f g (x ∷ xs) h = ap₂ (λ a b. a || b) (h x (0, omega arith, refl)) (some_passes-among f g xs (λ y m. h y (suc m.0, omega (arith, m.1), m.2)))

or_regroup : (a b c d : Bool) → ((a || b) || (c || d)) ≡ ((a || c) || (b || d))
or_regroup true b c d = refl
or_regroup false true true d = refl
or_regroup false true false d = refl
or_regroup false false c d = refl

or_swap : (a b : Bool) → (a || b) ≡ (b || a)
or_swap true true = refl
or_swap true false = refl
or_swap false true = refl
or_swap false false = refl

some_passes-or : {X : Type 0} (f g : X → Bool) (xs : List X) → some_passes (λ x. f x || g x) xs ≡ (some_passes f xs || some_passes g xs)
some_passes-or f g [] = refl
some_passes-or f g (x ∷ xs) = ap (λ b. (f x || g x) || b) (some_passes-or f g xs) ∙ or_regroup (f x) (g x) (some_passes f xs) (some_passes g xs)

none_passes : {X : Type 0} (xs : List X) → some_passes (λ x. false) xs ≡ false
none_passes [] = refl
none_passes (x ∷ xs) = none_passes xs

some_passes-swap : {X Y : Type 0} (test : X → Y → Bool) (xs : List X) (ys : List Y) → some_passes (λ x. some_passes (test x) ys) xs ≡ some_passes (λ y. some_passes (λ x. test x y) xs) ys
some_passes-swap test [] ys = sym (none_passes ys)
some_passes-swap test (x ∷ xs) ys = ap (λ b. some_passes (test x) ys || b) (some_passes-swap test xs ys) ∙ sym (some_passes-or (test x) (λ y. some_passes (λ x. test x y) xs) ys)

-- a test that all of them pass
some_passes-later : (j : ℕ) (test : ℕ → Bool) (xs : List ℕ) → ((i : ℕ) → some_passes (λ k. eqb k i) xs ≡ true → j < i) → some_passes (λ i. ltb j i && test i) xs ≡ some_passes test xs
some_passes-later j test [] h = refl
some_passes-later j test (x ∷ xs) h =
    ap₂ (λ a b. (a && test x) || b) (lt-ltb j x (h x (or_left (eqb x x) (some_passes (λ k. eqb k x) xs) (eq-eqb x x refl))))
    (some_passes-later j test xs (λ i k. h i (or_right (eqb x i) (some_passes (λ k. eqb k i) xs) k)))

-- ---- the events kept so far

module _ (os : List Object) (firsts : List (ℕ × ℕ)) (es : List Object) (goal : ℕ) where
  -- all of them are at n or after it, the basis has what they ask for, and what is collected from here on goes in front of them
  pub record IsKeeping (n : ℕ) (places : List ℕ) (basis : Basis) : Type 0 where
    pub later : (i : ℕ) → some_passes (λ k. eqb k i) (reverse places) ≡ true → n ≤ i
    pub is_basis : IsBasis os firsts basis
    pub asked : (s : Support) → notes os basis s ≡ some_passes (λ i. event_asks os firsts s (event_at es i)) (reverse places)
    pub collects : collected (is_wanted es goal) n (reverse places) ≡ collected (is_wanted es goal) (suc goal) []

  pub keeping_starts : (n : ℕ) (places : List ℕ) (basis : Basis) → n ≡ suc goal → places ≡ [] → ((p : Part) → has basis p ≡ false) → ((s : Support) → notes os basis s ≡ false) → IsKeeping n places basis
  keeping_starts n places basis e none no_parts no_supports = subst (λ l. IsKeeping n l basis) (sym none) (record {
    later = λ i h. cc;
    is_basis = record { inside = λ p h. (let no_part = no_parts p in cc); closed = λ s p h k. (let no_part = no_parts p in cc) };
    asked = no_supports;
    collects = ap (λ m. collected (is_wanted es goal) m []) e;
  })

  module _ (right : IsIndex os firsts es) (j : ℕ) (above : List ℕ) (basis : Basis) (later : (i : ℕ) → some_passes (λ k. eqb k i) above ≡ true → j < i) (asked : (s : Support) → notes os basis s ≡ some_passes (λ i. event_asks os firsts s (event_at es i)) above) where
    named : some_passes (λ i. some_passes (λ f. occurs f (without_name (event_at es i))) (names_added (event_at es j))) above ≡ some_passes (λ f. notes os basis (Named f)) (names_added (event_at es j))
    named =
        some_passes-swap (λ i f. occurs f (without_name (event_at es i))) above (names_added (event_at es j))
        ∙ some_passes-same (λ f. some_passes (λ i. occurs f (without_name (event_at es i))) above) (λ f. notes os basis (Named f)) (λ f. sym (asked (Named f))) (names_added (event_at es j))

    proved : some_passes (λ i. some_passes (λ c. is_place (first_proof es c) j) (theorems_named (event_at es i))) above ≡ notes os basis (Proved j)
    proved =
        some_passes-same (λ i. some_passes (λ c. is_place (first_proof es c) j) (theorems_named (event_at es i))) (λ i. event_asks os firsts (Proved j) (event_at es i))
        (λ i. some_passes-among (λ c. is_place (first_proof es c) j) (names_place os firsts j) (theorems_named (event_at es i)) (λ c m. ap (λ o. is_place o j) (sym (right i c m)))) above
        ∙ sym (asked (Proved j))

    rested_on : some_passes (λ i. rests_on es i j) above ≡ (some_passes (λ f. notes os basis (Named f)) (names_added (event_at es j)) || notes os basis (Proved j))
    rested_on =
        some_passes-later j (λ i. some_passes (λ f. occurs f (without_name (event_at es i))) (names_added (event_at es j)) || some_passes (λ c. is_place (first_proof es c) j) (theorems_named (event_at es i))) above later
        ∙ (some_passes-or (λ i. some_passes (λ f. occurs f (without_name (event_at es i))) (names_added (event_at es j))) (λ i. some_passes (λ c. is_place (first_proof es c) j) (theorems_named (event_at es i))) above
        ∙ ap₂ (λ a b. a || b) named proved)

    pub wanted_asked : j ≤ goal → is_wanted es goal above j ≡ is_asked_for os basis goal (event_at es j) j
    wanted_asked l = go (eqb j goal) refl
      where
        asks : Bool
        asks = some_passes (λ f. notes os basis (Named f)) (names_added (event_at es j)) || notes os basis (Proved j)

        profile : Bool
        profile = sets_profile 2 (event_at es j)

        go : (b : Bool) → eqb j goal ≡ b → (b || ((ltb j goal && sets_profile 2 (event_at es j)) || some_passes (λ i. rests_on es i j) above)) ≡ (b || (sets_profile 2 (event_at es j) || (some_passes (λ f. notes os basis (Named f)) (names_added (event_at es j)) || notes os basis (Proved j))))
        go true e = refl
        go false e =
            let m : j < goal = grind (arith, eqb-false j goal e) in
            ap₂ (λ a b. (a && sets_profile 2 (event_at es j)) || b) (lt-ltb j goal m) rested_on

  module _ (right : IsIndex os firsts es) (n : ℕ) (places new : List ℕ) (basis more : Basis) (some : 0 < n) (bounded : n ≤ suc goal) (k : IsKeeping n places basis)
      (e : Object) (is : event_at es (n - 1) ≡ e) (is_basis : IsBasis os firsts more)
      (supports : (s : Support) → notes os more s ≡ cond (is_asked_for os basis goal e (n - 1)) (notes os basis s || event_asks os firsts s e) (notes os basis s))
      (pushed : new ≡ cond (is_asked_for os basis goal e (n - 1)) (places ++ (n - 1) ∷ []) places) where
    pub keeping_goes : IsKeeping (n - 1) new more
    keeping_goes = go (is_asked_for os basis goal e (n - 1)) refl supports pushed
      where
        wanted : is_wanted es goal (reverse places) (n - 1) ≡ is_asked_for os basis goal e (n - 1)
        wanted =
            wanted_asked right (n - 1) (reverse places) basis (λ i h. (let l : n ≤ i = k.later i h in omega arith)) k.asked (omega arith)
            ∙ ap (λ x. is_asked_for os basis goal x (n - 1)) is

        go : (b : Bool) → is_asked_for os basis goal e (n - 1) ≡ b → ((s : Support) → notes os more s ≡ cond b (notes os basis s || event_asks os firsts s e) (notes os basis s)) → new ≡ cond b (places ++ (n - 1) ∷ []) places → IsKeeping (n - 1) new more
        go true b adds longer =
            let front : reverse new ≡ (n - 1) ∷ reverse places = ap reverse longer ∙ reverse-push places (n - 1) in
            record {
              later = λ i h. elim (or_cases (eqb (n - 1) i) (some_passes (λ k. eqb k i) (reverse places)) (ap (some_passes (λ k. eqb k i)) (sym front) ∙ h)) as (λ o. n - 1 ≤ i) [
                | inl q ↦ (let same : n - 1 ≡ i = eqb-true (n - 1) i q in omega arith)
                | inr q ↦ (let l : n ≤ i = k.later i q in omega arith)
              ];
              is_basis = is_basis;
              asked = λ s.
                  adds s
                  ∙ (or_swap (notes os basis s) (event_asks os firsts s e)
                  ∙ (ap₂ (λ x y. event_asks os firsts s x || y) (sym is) (k.asked s) ∙ sym (ap (some_passes (λ i. event_asks os firsts s (event_at es i))) front)));
              collects = place_kept (is_wanted es goal) n some places (collected (is_wanted es goal) (suc goal) []) k.collects new (wanted ∙ b) longer;
            }
        go false b adds same = subst (λ l. IsKeeping (n - 1) l more) (sym same) (record {
          later = λ i h. (let l : n ≤ i = k.later i h in omega arith);
          is_basis = is_basis;
          asked = λ s. adds s ∙ k.asked s;
          collects = place_passed (is_wanted es goal) n some places (collected (is_wanted es goal) (suc goal) []) k.collects (wanted ∙ b);
        })

-- the same in a heap that has grown
pub keeping_grows : (os new : List Object) (firsts : List (ℕ × ℕ)) (es : List Object) (goal n : ℕ) (places : List ℕ) (basis : Basis) → Grows os new → AreFirsts os firsts → IsKeeping os firsts es goal n places basis → IsKeeping new firsts es goal n places basis
keeping_grows os new firsts es goal n places basis grows all k = record {
  later = k.later;
  is_basis = basis_grows os new grows firsts all basis k.is_basis;
  asked = λ s.
      notes_grow os new grows basis k.is_basis.inside s
      ∙ (k.asked s ∙ some_passes-same (λ i. event_asks os firsts s (event_at es i)) (λ i. event_asks new firsts s (event_at es i)) (λ i. sym (event_asks-grows os new grows firsts all s (event_at es i))) (reverse places));
  collects = k.collects;
}

-- ---- the places in order

pub whole_reversed : (xs ys : List ℕ) (n : ℕ) → n ≡ length xs → ys ≡ reverse xs → take n (ys ++ drop (length ys) xs) ≡ reverse xs
whole_reversed xs ys n e f =
    let same : n ≡ length ys = e ∙ (sym (length-reverse xs) ∙ ap length (sym f)) in
    ap (λ k. take k (ys ++ drop (length ys) xs)) same ∙ (take-append_seam ys (drop (length ys) xs) ∙ f)

take-objects_of : (hs : List (List Object)) (added : List Added) (n : ℕ) → objects_of hs (take n added) ≡ take n (objects_of hs added)
take-objects_of hs [] zero = refl
take-objects_of hs [] (suc n) = refl
take-objects_of hs (a ∷ added) zero = refl
take-objects_of hs (a ∷ added) (suc n) = ap (λ l. object_in hs a ∷ l) (take-objects_of hs added n)

-- the slice, once it is known whether a switch comes before the goal
pub slice_by : (hs : List (List Object)) (added : List Added) (goal : ℕ) (b : Bool) → b ≡ some_passes (begins_with "SWITCH") (objects_of hs (take goal added)) → places_by (objects_of hs added) goal b ≡ slice_places (objects_of hs added) goal
slice_by hs added goal b switched = ap (places_by (objects_of hs added) goal) (switched ∙ ap (some_passes (begins_with "SWITCH")) (take-objects_of hs added goal))
