-- The first place of a list that passes a test, as the list grows at its end.
use Rattle.std.proofs.Common.{◌≡◌, ℕ, zero, suc, ◌+◌, ◌<◌, ◌≤◌, Bool, true, false, ◌&&◌, ◌||◌, cond, List, [], ◌∷◌, ◌++◌, length, take, drop, get_or, All, Contains, Option, Some, None, is_some, refl, sym, ap, ap₂, ◌∙◌, subst, arith}
use Rattle.std.specs.Map.{keys_of}
use Rattle.std.proofs.lemmas.List.Elements.{All-append, All-cons, All-nil, All-head, All-tail}
use Rattle.mw_model.specs.Terms.Object.{Object, same_object, third_of}
use Rattle.mw_model.proofs.Names.{same_object-eq}
use Rattle.mw_model.proofs.SameObject.{same_object-swap}
use Rattle.mw_commands.specs.Commands.Slice.{begins_with, event_at, later_place, first_place, some_passes, theorems_named}
use Rattle.mw_heap.specs.Objects.{object_at, IsIn}
use Rattle.mw_slice.specs.declared.added.Added.{Added}
use Rattle.mw_slice.specs.Heaps.{heap_of, IsPlaced, object_in}
use Rattle.mw_slice.specs.Events.{AreIn, objects_of}
use Rattle.mw_slice.specs.Firsts.{AreFirsts, IsIndex, NamesNone, proves, first_or, first_by}

first_or-none : (o : Option ℕ) → first_or o None ≡ o
first_or-none None = refl
first_or-none (Some i) = refl

later-first_or : (o p : Option ℕ) → later_place (first_or o p) ≡ first_or (later_place o) (later_place p)
later-first_or None p = refl
later-first_or (Some i) p = refl

later-cond : (b : Bool) (i : ℕ) → later_place (cond b (Some i) None) ≡ cond b (Some (suc i)) None
later-cond true i = refl
later-cond false i = refl

module _ (test : Object → Bool) where
  pub first_place-push : (xs : List Object) (x : Object) → first_place test (xs ++ x ∷ []) ≡ first_or (first_place test xs) (cond (test x) (Some (length xs)) None)
  first_place-push [] x = go (test x)
    where
      go : (b : Bool) → cond b (Some 0) (later_place None) ≡ cond b (Some 0) None
      go true = refl
      go false = refl
  first_place-push (y ∷ xs) x = go (test y) (first_place-push xs x)
    where
      go : (b : Bool) → first_place test (xs ++ x ∷ []) ≡ first_or (first_place test xs) (cond (test x) (Some (length xs)) None) → cond b (Some 0) (later_place (first_place test (xs ++ x ∷ []))) ≡ first_or (cond b (Some 0) (later_place (first_place test xs))) (cond (test x) (Some (suc (length xs))) None)
      go true ih = refl
      go false ih = ap later_place ih ∙ (later-first_or (first_place test xs) (cond (test x) (Some (length xs)) None) ∙ ap (first_or (later_place (first_place test xs))) (later-cond (test x) (length xs)))

  pub first_place-here : (xs ys : List Object) (x : Object) → first_place test xs ≡ None → test x ≡ true → first_place test (xs ++ x ∷ ys) ≡ Some (length xs)
  first_place-here [] ys x none h = ap (λ b. cond b (Some 0) (later_place (first_place test ys))) h
  first_place-here (y ∷ xs) ys x none h = go (test y) none (λ n. first_place-here xs ys x n h)
    where
      none_later : (o : Option ℕ) → later_place o ≡ None → o ≡ None
      none_later None e = refl
      none_later (Some i) e = cc

      go : (b : Bool) → cond b (Some 0) (later_place (first_place test xs)) ≡ None → (first_place test xs ≡ None → first_place test (xs ++ x ∷ ys) ≡ Some (length xs)) → cond b (Some 0) (later_place (first_place test (xs ++ x ∷ ys))) ≡ Some (suc (length xs))
      go true e ih = cc
      go false e ih = ap later_place (ih (none_later (first_place test xs) e))

  pub some_passes-append : (xs ys : List Object) → some_passes test (xs ++ ys) ≡ (some_passes test xs || some_passes test ys)
  some_passes-append [] ys = refl
  some_passes-append (x ∷ xs) ys = go (test x) (some_passes-append xs ys)
    where
      go : (b : Bool) → some_passes test (xs ++ ys) ≡ (some_passes test xs || some_passes test ys) → (b || some_passes test (xs ++ ys)) ≡ ((b || some_passes test xs) || some_passes test ys)
      go true e = refl
      go false e = e

-- ---- places of formulas

module _ (os : List Object) where
  first_by-push : (firsts : List (ℕ × ℕ)) (r i : ℕ) (c : Object) → first_by os (firsts ++ (r, i) ∷ []) c ≡ first_or (first_by os firsts c) (cond (same_object c (object_at os r)) (Some i) None)
  first_by-push [] r i c = refl
  first_by-push (e ∷ es) r i c = go (same_object c (object_at os e.0)) (first_by-push es r i c)
    where
      go : (b : Bool) → first_by os (es ++ (r, i) ∷ []) c ≡ first_or (first_by os es c) (cond (same_object c (object_at os r)) (Some i) None) → cond b (Some e.1) (first_by os (es ++ (r, i) ∷ []) c) ≡ first_or (cond b (Some e.1) (first_by os es c)) (cond (same_object c (object_at os r)) (Some i) None)
      go true h = refl
      go false h = h

  module _ (firsts : List (ℕ × ℕ)) (e : Object) (i : ℕ) where
    abbrev Notes : List (ℕ × ℕ) → Type 0
    Notes new = (c : Object) → first_by os new c ≡ first_or (first_by os firsts c) (cond (proves c e) (Some i) None)

    pub noted_none : begins_with "VERIFY" e ≡ false → Notes firsts
    noted_none h c = sym (ap (λ b. first_or (first_by os firsts c) (cond (b && same_object (third_of e) c) (Some i) None)) h ∙ first_or-none (first_by os firsts c))

    pub noted_new : (f : ℕ) (new : List (ℕ × ℕ)) → begins_with "VERIFY" e ≡ true → object_at os f ≡ third_of e → new ≡ firsts ++ (f, i) ∷ [] → Notes new
    noted_new f new h same e2 c =
        ap (λ l. first_by os l c) e2
        ∙ (first_by-push firsts f i c
        ∙ ap (λ b. first_or (first_by os firsts c) (cond b (Some i) None)) (ap (same_object c) same ∙ (same_object-swap c (third_of e) ∙ ap (λ b. b && same_object (third_of e) c) (sym h))))

    pub noted_before : (f : Object) (k : ℕ) → begins_with "VERIFY" e ≡ true → f ≡ third_of e → first_by os firsts f ≡ Some k → Notes firsts
    noted_before f k h same was c = go (same_object (third_of e) c) refl
      where
        go : (b : Bool) → same_object (third_of e) c ≡ b → first_by os firsts c ≡ first_or (first_by os firsts c) (cond (proves c e) (Some i) None)
        go true t =
            let is : first_by os firsts c ≡ Some k = ap (first_by os firsts) (sym (same_object-eq (third_of e) c t) ∙ sym same) ∙ was in
            is ∙ sym (ap (λ o. first_or o (cond (proves c e) (Some i) None)) is)
        go false t = sym (ap (λ b. first_or (first_by os firsts c) (cond b (Some i) None)) (ap₂ (λ x y. x && y) h t) ∙ first_or-none (first_by os firsts c))

keys_of-push : (firsts : List (ℕ × ℕ)) (f i : ℕ) → keys_of (firsts ++ (f, i) ∷ []) ≡ keys_of firsts ++ f ∷ []
keys_of-push [] f i = refl
keys_of-push (e ∷ es) f i = ap (λ l. e.0 ∷ l) (keys_of-push es f i)

pub firsts-push : (os : List Object) (firsts new : List (ℕ × ℕ)) (f i : ℕ) → new ≡ firsts ++ (f, i) ∷ [] → AreFirsts os firsts → IsIn os f → AreFirsts os new
firsts-push os firsts new f i e all within =
    subst (All (IsIn os)) (sym (ap keys_of e ∙ keys_of-push firsts f i)) (All-append (IsIn os) (keys_of firsts) (f ∷ []) all (All-cons (IsIn os) f [] within (All-nil (IsIn os))))

-- ---- the events so far

-- those before a place, with the one there
pub objects_of-next : (hs : List (List Object)) (added : List Added) (i : ℕ) (d : Added) → i < length added → objects_of hs (take (suc i) added) ≡ objects_of hs (take i added) ++ object_in hs (get_or added i d) ∷ []
objects_of-next hs [] i d h = absurd (omega arith)
objects_of-next hs (a ∷ added) zero d h = refl
objects_of-next hs (a ∷ added) (suc i) d h = ap (λ l. object_in hs a ∷ l) (objects_of-next hs added i d (omega arith))

pub objects_of-parts : (hs : List (List Object)) (added : List Added) (i : ℕ) (d : Added) → i < length added → objects_of hs added ≡ objects_of hs (take i added) ++ (object_in hs (get_or added i d) ∷ objects_of hs (drop (suc i) added))
objects_of-parts hs [] i d h = absurd (omega arith)
objects_of-parts hs (a ∷ added) zero d h = refl
objects_of-parts hs (a ∷ added) (suc i) d h = ap (λ l. object_in hs a ∷ l) (objects_of-parts hs added i d (omega arith))

pub length-objects_of : (hs : List (List Object)) (added : List Added) (i : ℕ) → i ≤ length added → length (objects_of hs (take i added)) ≡ i
length-objects_of hs [] zero h = refl
length-objects_of hs [] (suc i) h = absurd (omega arith)
length-objects_of hs (a ∷ added) zero h = refl
length-objects_of hs (a ∷ added) (suc i) h = ap suc (length-objects_of hs added i (omega arith))

pub none_of : {X : Type 0} (o : Option X) → is_some o ≡ false → o ≡ None
none_of None h = refl
none_of (Some x) h = cc

pub some_of : {X : Type 0} (o : Option X) → is_some o ≡ true → (x : X) × (o ≡ Some x)
some_of None h = cc
some_of (Some x) h = (x, refl)

module _ (hs : List (List Object)) (added : List Added) (i : ℕ) (a : Added) (is : a ≡ get_or added i a) (within : i < length added) where
  pub events-next : objects_of hs (take (i + 1) added) ≡ objects_of hs (take i added) ++ object_in hs a ∷ []
  events-next =
      let one : i + 1 ≡ suc i = omega arith in
      ap (λ n. objects_of hs (take n added)) one ∙ (objects_of-next hs added i a within ∙ ap (λ b. objects_of hs (take i added) ++ object_in hs b ∷ []) (sym is))

  pub events-parts : objects_of hs added ≡ objects_of hs (take i added) ++ (object_in hs a ∷ objects_of hs (drop (suc i) added))
  events-parts = objects_of-parts hs added i a within ∙ ap (λ b. objects_of hs (take i added) ++ (object_in hs b ∷ objects_of hs (drop (suc i) added))) (sym is)

  pub first_place-next : (test : Object → Bool) → first_place test (objects_of hs (take (i + 1) added)) ≡ first_or (first_place test (objects_of hs (take i added))) (cond (test (object_in hs a)) (Some i) None)
  first_place-next test =
      ap (first_place test) events-next
      ∙ (first_place-push test (objects_of hs (take i added)) (object_in hs a)
      ∙ ap (λ n. first_or (first_place test (objects_of hs (take i added))) (cond (test (object_in hs a)) (Some n) None)) (length-objects_of hs added i (omega arith)))

  pub some_passes-next : (test : Object → Bool) → some_passes test (objects_of hs (take i added)) ≡ false → test (object_in hs a) ≡ false → some_passes test (objects_of hs (take (i + 1) added)) ≡ false
  some_passes-next test before here =
      ap (some_passes test) events-next
      ∙ (some_passes-append test (objects_of hs (take i added)) (object_in hs a ∷ [])
      ∙ ap₂ (λ x y. x || (y || false)) before here)

  pub some_passes-here : (test : Object → Bool) → test (object_in hs a) ≡ true → some_passes test (objects_of hs added) ≡ true
  some_passes-here test here =
      ap (some_passes test) events-parts
      ∙ (some_passes-append test (objects_of hs (take i added)) (object_in hs a ∷ objects_of hs (drop (suc i) added))
      ∙ (ap (λ b. some_passes test (objects_of hs (take i added)) || (b || some_passes test (objects_of hs (drop (suc i) added)))) here ∙ or_true (some_passes test (objects_of hs (take i added)))))
    where
      or_true : (b : Bool) → (b || true) ≡ true
      or_true true = refl
      or_true false = refl

  pub first_place-none : (test : Object → Bool) → first_place test (objects_of hs (take i added)) ≡ None → test (object_in hs a) ≡ false → first_place test (objects_of hs (take (i + 1) added)) ≡ None
  first_place-none test before here = first_place-next test ∙ ap₂ (λ o b. first_or o (cond b (Some i) None)) before here

  pub first_place-found : (test : Object → Bool) → first_place test (objects_of hs (take i added)) ≡ None → test (object_in hs a) ≡ true → first_place test (objects_of hs added) ≡ Some i
  first_place-found test before here =
      ap (first_place test) events-parts
      ∙ (first_place-here test (objects_of hs (take i added)) (objects_of hs (drop (suc i) added)) (object_in hs a) before here
      ∙ ap Some (length-objects_of hs added i (omega arith)))

-- no event names a theorem
pub none_named : (os : List Object) (firsts : List (ℕ × ℕ)) (hs : List (List Object)) (added : List Added) → AreIn hs added → ((k : ℕ) → k < length hs → NamesNone (heap_of hs k)) → IsIndex os firsts (objects_of hs added)
none_named os firsts hs added placed none i c m = absurd (nothing (subst (λ l. Contains l c) (named i added placed) m))
  where
    nothing : Contains [] c → ⊥
    nothing h = absurd (omega (arith, h.1))

    named : (i : ℕ) (added : List Added) → AreIn hs added → theorems_named (event_at (objects_of hs added) i) ≡ []
    named i [] p = refl
    named zero (a ∷ added) p = let q = All-head (IsPlaced hs) a added p in none a.heap q.heap a.event q.within
    named (suc i) (a ∷ added) p = named i added (All-tail (IsPlaced hs) a added p)

-- all of them
pub events-all : (hs : List (List Object)) (added : List Added) (i : ℕ) → length added ≤ i → objects_of hs (take i added) ≡ objects_of hs added
events-all hs [] zero h = refl
events-all hs [] (suc i) h = refl
events-all hs (a ∷ added) zero h = absurd (omega arith)
events-all hs (a ∷ added) (suc i) h = ap (λ l. object_in hs a ∷ l) (events-all hs added i (omega arith))
