-- The slice of a list of events exists, is computed from the last place to the first, and is the only one. The set of needed
-- places is the least one.
use Rattle.std.proofs.Common.{◌≡◌, ℕ, zero, suc, ◌<◌, ◌≤◌, Bool, true, false, ◌&&◌, ◌||◌, not, cond, eqb, ltb, List, [], ◌∷◌, take, ◌≢◌, ◌⊎◌, inl, inr, ◌↔◌, refl, sym, ap, ap₂, ◌∙◌, subst, arith, eqb-true, eq-eqb}
use Rattle.std.proofs.lemmas.Bool.{true≢false, and_parts, and_from, or_cases, or_left, or_right, ltb-true, lt-ltb, eqb-false}
use Rattle.mw_model.specs.Terms.Object.{Object}
use Rattle.mw_model.specs.Values.Value.{pick}
use Rattle.mw_commands.specs.Commands.Slice.{begins_with, event_at, some_passes, rests_on, sets_profile, Needed, the_goal, the_profile, the_basis, is_idle, is_ascending, IsSlice}

abbrev pub among : List ℕ → ℕ → Bool
among places j = some_passes (λ i. eqb i j) places

-- the place j, where those above it that are kept are these
abbrev pub is_wanted : List Object → ℕ → List ℕ → ℕ → Bool
is_wanted es goal above j = eqb j goal || ((ltb j goal && sets_profile 2 (event_at es j)) || some_passes (λ i. rests_on es i j) above)

abbrev pub changes : List Object → List ℕ → ℕ → Bool
changes es above j = not (is_idle (event_at es j))

-- from place n down, each that passes the test is put in front
abbrev pub collected : (List ℕ → ℕ → Bool) → ℕ → List ℕ → List ℕ
collected test zero above = above
collected test (suc j) above = collected test j (cond (test above j) (j ∷ above) above)

abbrev pub places_by : List Object → ℕ → Bool → List ℕ
places_by es goal true = collected (changes es) (suc goal) []
places_by es goal false = collected (is_wanted es goal) (suc goal) []

abbrev pub slice_places : List Object → ℕ → List ℕ
slice_places es goal = places_by es goal (some_passes (begins_with "SWITCH") (take goal es))

-- ---- lists of places

-- what passes is a member
pub passing : (test : ℕ → Bool) (xs : List ℕ) → some_passes test xs ≡ true → (i : ℕ) × (among xs i ≡ true) × (test i ≡ true)
passing test [] h = cc
passing test (x ∷ xs) h = go (or_cases (test x) (some_passes test xs) h) (passing test xs)
  where
    go : (test x ≡ true) ⊎ (some_passes test xs ≡ true) → (some_passes test xs ≡ true → (i : ℕ) × (among xs i ≡ true) × (test i ≡ true)) → (i : ℕ) × (among (x ∷ xs) i ≡ true) × (test i ≡ true)
    go (inl p) ih = (x, or_left (eqb x x) (among xs x) (eq-eqb x x refl), p)
    go (inr p) ih = let r = ih p in (r.0, or_right (eqb x r.0) (among xs r.0) r.1, r.2)

passes : (test : ℕ → Bool) (xs : List ℕ) (i : ℕ) → among xs i ≡ true → test i ≡ true → some_passes test xs ≡ true
passes test [] i h k = cc
passes test (x ∷ xs) i h k = go (or_cases (eqb x i) (among xs i) h) (passes test xs i)
  where
    go : (eqb x i ≡ true) ⊎ (among xs i ≡ true) → (among xs i ≡ true → test i ≡ true → some_passes test xs ≡ true) → some_passes test (x ∷ xs) ≡ true
    go (inl p) ih = or_left (test x) (some_passes test xs) (ap test (eqb-true x i p) ∙ k)
    go (inr p) ih = or_right (test x) (some_passes test xs) (ih p k)

-- in front of members that are greater
ascending_from : (n : ℕ) (xs : List ℕ) → is_ascending xs ≡ true → ((j : ℕ) → among xs j ≡ true → n < j) → is_ascending (n ∷ xs) ≡ true
ascending_from n [] h g = refl
ascending_from n (x ∷ xs) h g = and_from (ltb n x) (is_ascending (x ∷ xs)) (lt-ltb n x (g x (or_left (eqb x x) (among xs x) (eq-eqb x x refl)))) h

pub rest_ascending : (x : ℕ) (xs : List ℕ) → is_ascending (x ∷ xs) ≡ true → is_ascending xs ≡ true
rest_ascending x [] h = refl
rest_ascending x (y ∷ ys) h = (and_parts (ltb x y) (is_ascending (y ∷ ys)) h).1

pub first_least : (x : ℕ) (xs : List ℕ) → is_ascending (x ∷ xs) ≡ true → (j : ℕ) → among xs j ≡ true → x < j
first_least x [] h j k = cc
first_least x (y ∷ ys) h j k =
    let p = and_parts (ltb x y) (is_ascending (y ∷ ys)) h in
    let l : x < y = ltb-true x y p.0 in
    go l (or_cases (eqb y j) (among ys j) k) (first_least y ys p.1 j)
  where
    go : x < y → (eqb y j ≡ true) ⊎ (among ys j ≡ true) → (among ys j ≡ true → y < j) → x < j
    go l (inl q) ih = let e : y ≡ j = eqb-true y j q in omega arith
    go l (inr q) ih = let m : y < j = ih q in omega arith

-- ---- what is collected is the set

-- K has just the members of S from place n on, in order
record Stands (S : ℕ → Type 0) (n : ℕ) (K : List ℕ) : Type 0 where
  sound : (j : ℕ) → among K j ≡ true → S j
  complete : (j : ℕ) → S j → n ≤ j → among K j ≡ true
  above : (j : ℕ) → among K j ≡ true → n ≤ j
  ascending : is_ascending K ≡ true

module _ (S : ℕ → Type 0) (test : List ℕ → ℕ → Bool) (goal : ℕ) (bounded : (j : ℕ) → S j → j ≤ goal) (right : (K : List ℕ) (j : ℕ) → j ≤ goal → ((i : ℕ) → among K i ≡ true → S i) → test K j ≡ true → S j) (whole : (K : List ℕ) (j : ℕ) → ((i : ℕ) → S i → j < i → among K i ≡ true) → S j → test K j ≡ true) where
  next_stands : (n : ℕ) (K : List ℕ) → suc n ≤ suc goal → Stands S (suc n) K → Stands S n (cond (test K n) (n ∷ K) K)
  next_stands n K l s = go (test K n) refl
    where
      or_here : (j : ℕ) → n ≤ j → (j ≡ n) ⊎ (suc n ≤ j)
      or_here j h = go₂ (eqb j n) refl
        where
          go₂ : (b : Bool) → eqb j n ≡ b → (j ≡ n) ⊎ (suc n ≤ j)
          go₂ true e = inl (eqb-true j n e)
          go₂ false e = let d : j ≢ n = eqb-false j n e in inr (omega arith)

      here : test K n ≡ true → S n
      here e = right K n (omega arith) s.sound e

      there : S n → test K n ≡ true
      there h = whole K n (λ i k m. s.complete i k m) h

      go : (b : Bool) → test K n ≡ b → Stands S n (cond b (n ∷ K) K)
      go true e = record {
        sound = λ j h. elim (or_cases (eqb n j) (among K j) h) as (λ o. S j) [ inl p ↦ subst S (eqb-true n j p) (here e) | inr p ↦ s.sound j p ];
        complete = λ j h m. elim (or_here j m) as (λ o. among (n ∷ K) j ≡ true) [ inl p ↦ or_left (eqb n j) (among K j) (eq-eqb n j (sym p)) | inr p ↦ or_right (eqb n j) (among K j) (s.complete j h p) ];
        above = λ j h. elim (or_cases (eqb n j) (among K j) h) as (λ o. n ≤ j) [ inl p ↦ (let q : n ≡ j = eqb-true n j p in omega arith) | inr p ↦ (let q : suc n ≤ j = s.above j p in omega arith) ];
        ascending = ascending_from n K s.ascending (λ j h. s.above j h);
      }
      go false e = record {
        sound = s.sound;
        complete = λ j h m. elim (or_here j m) as (λ o. among K j ≡ true) [ inl p ↦ absurd (true≢false (sym (there (subst S p h)) ∙ e)) | inr p ↦ s.complete j h p ];
        above = λ j h. (let q : suc n ≤ j = s.above j h in omega arith);
        ascending = s.ascending;
      }

  all_stand : (n : ℕ) (K : List ℕ) → n ≤ suc goal → Stands S n K → Stands S zero (collected test n K)
  all_stand zero K l s = s
  all_stand (suc n) K l s = all_stand n (cond (test K n) (n ∷ K) K) (omega arith) (next_stands n K l s)

  nothing_stands : Stands S (suc goal) []
  nothing_stands = record { sound = λ j h. cc; complete = λ j h m. (let l : j ≤ goal = bounded j h in absurd (omega arith)); above = λ j h. cc; ascending = refl }

  pub collected_ascending : is_ascending (collected test (suc goal) []) ≡ true
  collected_ascending = (all_stand (suc goal) [] (omega arith) nothing_stands).ascending

  pub collected_just : (j : ℕ) → (among (collected test (suc goal) []) j ≡ true) ↔ S j
  collected_just j = let s = all_stand (suc goal) [] (omega arith) nothing_stands in (s.sound j, λ h. s.complete j h (omega arith))

-- ---- the two sets

module _ (es : List Object) (goal : ℕ) where
  pub needed_below : (j : ℕ) → Needed es goal j → j ≤ goal
  needed_below j the_goal = omega arith
  needed_below j (the_profile k l p) = omega arith
  needed_below j (the_basis i k n r) =
      let m : i ≤ goal = needed_below i n in
      let l : k < i = ltb-true k i (and_parts (ltb k i) _ r).0 in
      omega arith

  needed_right : (K : List ℕ) (j : ℕ) → j ≤ goal → ((i : ℕ) → among K i ≡ true → Needed es goal i) → is_wanted es goal K j ≡ true → Needed es goal j
  needed_right K j l s h = go (or_cases (eqb j goal) ((ltb j goal && sets_profile 2 (event_at es j)) || some_passes (λ i. rests_on es i j) K) h)
    where
      go₂ : ((ltb j goal && sets_profile 2 (event_at es j)) ≡ true) ⊎ (some_passes (λ i. rests_on es i j) K ≡ true) → Needed es goal j
      go₂ (inl p) = let q = and_parts (ltb j goal) (sets_profile 2 (event_at es j)) p in the_profile j (ltb-true j goal q.0) q.1
      go₂ (inr p) = let q = passing (λ i. rests_on es i j) K p in the_basis q.0 j (s q.0 q.1) q.2

      go : (eqb j goal ≡ true) ⊎ (((ltb j goal && sets_profile 2 (event_at es j)) || some_passes (λ i. rests_on es i j) K) ≡ true) → Needed es goal j
      go (inl p) = subst (Needed es goal) (sym (eqb-true j goal p)) the_goal
      go (inr p) = go₂ (or_cases (ltb j goal && sets_profile 2 (event_at es j)) (some_passes (λ i. rests_on es i j) K) p)

  needed_whole : (K : List ℕ) (j : ℕ) → ((i : ℕ) → Needed es goal i → j < i → among K i ≡ true) → Needed es goal j → is_wanted es goal K j ≡ true
  needed_whole K j c the_goal = or_left (eqb goal goal) _ (eq-eqb goal goal refl)
  needed_whole K j c (the_profile k l p) = or_right (eqb k goal) _ (or_left (ltb k goal && sets_profile 2 (event_at es k)) _ (and_from _ _ (lt-ltb k goal l) p))
  needed_whole K j c (the_basis i k n r) =
      let l : k < i = ltb-true k i (and_parts (ltb k i) _ r).0 in
      or_right (eqb k goal) _ (or_right (ltb k goal && sets_profile 2 (event_at es k)) _ (passes (λ m. rests_on es m k) K i (c i n l) r))

  -- each set that has the target, a second profile before it, and what its members rest on, has the needed places
  pub needed_least : (S : ℕ → Type 0) → S goal → ((j : ℕ) → j < goal → sets_profile 2 (event_at es j) ≡ true → S j) → ((i j : ℕ) → S i → rests_on es i j ≡ true → S j) → (j : ℕ) → Needed es goal j → S j
  needed_least S g p b j the_goal = g
  needed_least S g p b j (the_profile k l h) = p k l h
  needed_least S g p b j (the_basis i k n r) = b i k (needed_least S g p b i n) r

  abbrev Changing : ℕ → Type 0
  Changing j = (j ≤ goal) × (is_idle (event_at es j) ≡ false)

  changing_right : (K : List ℕ) (j : ℕ) → j ≤ goal → ((i : ℕ) → among K i ≡ true → Changing i) → changes es K j ≡ true → Changing j
  changing_right K j l s h = go (is_idle (event_at es j)) refl h
    where
      go : (b : Bool) → is_idle (event_at es j) ≡ b → not b ≡ true → Changing j
      go true e k = cc
      go false e k = (l, e)

  exists_by : (b : Bool) → (is_ascending (places_by es goal b) ≡ true) × ((j : ℕ) → (among (places_by es goal b) j ≡ true) ↔ pick b (Changing j) (Needed es goal j))
  exists_by true =
      (collected_ascending Changing (changes es) goal (λ j h. h.0) changing_right (λ K j c h. ap not h.1), collected_just Changing (changes es) goal (λ j h. h.0) changing_right (λ K j c h. ap not h.1))
  exists_by false =
      (collected_ascending (Needed es goal) (is_wanted es goal) goal needed_below needed_right needed_whole, collected_just (Needed es goal) (is_wanted es goal) goal needed_below needed_right needed_whole)

  pub slice_exists : IsSlice es goal (slice_places es goal)
  slice_exists = let e = exists_by (some_passes (begins_with "SWITCH") (take goal es)) in record { ascending = e.0; just = e.1 }

-- ---- one list alone

same_lists : (xs ys : List ℕ) → is_ascending xs ≡ true → is_ascending ys ≡ true → ((j : ℕ) → among xs j ≡ true → among ys j ≡ true) → ((j : ℕ) → among ys j ≡ true → among xs j ≡ true) → xs ≡ ys
same_lists [] [] a b f g = refl
same_lists [] (y ∷ ys) a b f g = let h : false ≡ true = g y (or_left (eqb y y) (among ys y) (eq-eqb y y refl)) in cc
same_lists (x ∷ xs) [] a b f g = let h : false ≡ true = f x (or_left (eqb x x) (among xs x) (eq-eqb x x refl)) in cc
same_lists (x ∷ xs) (y ∷ ys) a b f g = ap₂ ◌∷◌ first_same (same_lists xs ys (rest_ascending x xs a) (rest_ascending y ys b) rest_f rest_g)
  where
    up : (u v : ℕ) (us : List ℕ) → is_ascending (u ∷ us) ≡ true → among (u ∷ us) v ≡ true → u ≤ v
    up u v us c h = go (or_cases (eqb u v) (among us v) h)
      where
        go : (eqb u v ≡ true) ⊎ (among us v ≡ true) → u ≤ v
        go (inl p) = let e : u ≡ v = eqb-true u v p in omega arith
        go (inr p) = let l : u < v = first_least u us c v p in omega arith

    first_same : x ≡ y
    first_same =
        let l : x ≤ y = up x y xs a (g y (or_left (eqb y y) (among ys y) (eq-eqb y y refl))) in
        let m : y ≤ x = up y x ys b (f x (or_left (eqb x x) (among xs x) (eq-eqb x x refl))) in
        omega arith

    other : (u v j : ℕ) (us vs : List ℕ) → u ≡ v → is_ascending (u ∷ us) ≡ true → among us j ≡ true → among (v ∷ vs) j ≡ true → among vs j ≡ true
    other u v j us vs e c h k = go (or_cases (eqb v j) (among vs j) k)
      where
        go : (eqb v j ≡ true) ⊎ (among vs j ≡ true) → among vs j ≡ true
        go (inl p) =
            let l : u < j = first_least u us c j h in
            let q : v ≡ j = eqb-true v j p in
            absurd (omega arith)
        go (inr p) = p

    rest_f : (j : ℕ) → among xs j ≡ true → among ys j ≡ true
    rest_f j h = other x y j xs ys first_same a h (f j (or_right (eqb x j) (among xs j) h))

    rest_g : (j : ℕ) → among ys j ≡ true → among xs j ≡ true
    rest_g j h = other y x j ys xs (sym first_same) b h (g j (or_right (eqb y j) (among ys j) h))

pub slice_unique : (es : List Object) (goal : ℕ) (ps qs : List ℕ) → IsSlice es goal ps → IsSlice es goal qs → ps ≡ qs
slice_unique es goal ps qs s r = same_lists ps qs s.ascending r.ascending (λ j h. (r.just j).1 ((s.just j).0 h)) (λ j h. (s.just j).1 ((r.just j).0 h))
