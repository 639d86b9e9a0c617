-- A kept event is accepted after the kept events before it: what it uses was added by events that it rests on.
use Rattle.std.proofs.Common.{◌≡◌, ℕ, zero, suc, ◌<◌, ◌≤◌, Bool, true, false, ◌&&◌, cond, ltb, List, [], ◌∷◌, map, filter, Some, ◌⊎◌, inl, inr, refl, sym, ap, ◌∙◌, subst, arith}
use Rattle.std.proofs.lemmas.Bool.{and_parts, and_from, or_cases, or_left, or_right, false≢true, lt-ltb, eq-eqb}
use Rattle.mw_model.specs.Terms.Object.{Name, Object, Symbol, named, same_object, NIL, second_of, third_of, Member}
use Rattle.mw_model.specs.Terms.Term.{arity_of}
use Rattle.mw_model.specs.Values.Primitive.{Profile, One, Two, primitive_arities}
use Rattle.mw_model.specs.Values.Definition.{Block, arities}
use Rattle.mw_model.specs.Values.Truth.{Each}
use Rattle.mw_model.specs.Events.Theory.{axioms_of}
use Rattle.mw_model.specs.Events.Fate.{event_word}
use Rattle.mw_model.proofs.Names.{same_object-eq, same_object-refl}
use Rattle.mw_model.proofs.NewNames.{none_some, none_below}
use Rattle.mw_commands.specs.Commands.Subproofs.{each_within}
use Rattle.mw_commands.specs.Commands.Slice.{begins_with, event_at, some_passes, later_place, first_place, is_place, first_proof, occurs, without_name, names_added, proofs_by_word, theorems_named, rests_on}
use Rattle.mw_commands.proofs.SameArities.{Agree}
use Rattle.mw_commands.proofs.SameExpansion.{BringSame}
use Rattle.mw_commands.proofs.ProvedAgain.{NamesKnown}
use Rattle.mw_commands.proofs.BlockNames.{some_occurs}
use Rattle.mw_commands.proofs.DefinedAgain.{Suits}
use Rattle.mw_commands.proofs.EventAgain.{HasUsed}
use Rattle.mw_commands.proofs.SliceCourse.{Lost, Course, unknown_too}
use Rattle.mw_commands.proofs.Changes.{plain}
use Rattle.mw_commands.proofs.Within.{Within}

-- ---- tests on lists

passes_more : {X : Type 0} (p q : X → Bool) → ((x : X) → p x ≡ true → q x ≡ true) → (xs : List X) → some_passes p xs ≡ true → some_passes q xs ≡ true
passes_more p q f [] h = cc
passes_more p q f (x ∷ xs) h = elim (or_cases (p x) (some_passes p xs) h) as (λ o. some_passes q (x ∷ xs) ≡ true) [ inl k ↦ or_left (q x) (some_passes q xs) (f x k) | inr k ↦ or_right (q x) (some_passes q xs) (passes_more p q f xs k) ]

-- what holds of each that passes some test that a member passes
each_member : (Q : Object → Type 0) (xs : List Object) → ((x : Object) → ((test : Object → Bool) → test x ≡ true → some_passes test xs ≡ true) → Q x) → Each Q xs
each_member Q [] f = tt
each_member Q (x ∷ xs) f =
    (f x (λ test h. or_left (test x) (some_passes test xs) h), each_member Q xs (λ y g. f y (λ test h. or_right (test x) (some_passes test xs) (g test h))))

passes_mapped : (test chosen : Object → Bool) (g : Object → Object) (xs : List Object) → some_passes (λ x. chosen x && test (g x)) xs ≡ true → some_passes test (map g (filter chosen xs)) ≡ true
passes_mapped test chosen g [] h = cc
passes_mapped test chosen g (x ∷ xs) h = go (chosen x) (or_cases _ (some_passes (λ y. chosen y && test (g y)) xs) h) (passes_mapped test chosen g xs)
  where
    go : (b : Bool) → ((b && test (g x)) ≡ true) ⊎ (some_passes (λ y. chosen y && test (g y)) xs ≡ true) → (some_passes (λ y. chosen y && test (g y)) xs ≡ true → some_passes test (map g (filter chosen xs)) ≡ true) → some_passes test (map g (cond b (x ∷ filter chosen xs) (filter chosen xs))) ≡ true
    go true (inl p) ih = or_left (test (g x)) (some_passes test (map g (filter chosen xs))) p
    go true (inr p) ih = or_right (test (g x)) (some_passes test (map g (filter chosen xs))) (ih p)
    go false (inl p) ih = cc
    go false (inr p) ih = ih p

-- a first place is no later than a place that passes
record FirstPlace (test : Object → Bool) (es : List Object) (k : ℕ) : Type 0 where
  place : ℕ
  found : first_place test es ≡ Some place
  early : place ≤ k
  passes : test (event_at es place) ≡ true

place_found : (test : Object → Bool) → test NIL ≡ false → (es : List Object) (k : ℕ) → test (event_at es k) ≡ true → FirstPlace test es k
place_found test n [] k h = absurd (false≢true (sym n ∙ h))
place_found test n (e ∷ es) zero h = record { place = 0; found = ap (λ b. cond b (Some 0) (later_place (first_place test es))) h; early = omega arith; passes = h }
place_found test n (e ∷ es) (suc k) h = go (test e) refl (place_found test n es k h)
  where
    go : (b : Bool) → test e ≡ b → FirstPlace test es k → FirstPlace test (e ∷ es) (suc k)
    go true t r = record { place = 0; found = ap (λ b. cond b (Some 0) (later_place (first_place test es))) t; early = omega arith; passes = t }
    go false t r =
        record { place = suc r.place; found = ap (λ b. cond b (Some 0) (later_place (first_place test es))) t ∙ ap later_place r.found; early = let l = r.early in omega arith; passes = r.passes }

-- primitives that abbreviations stand for
if_there : (P : Profile) → arity_of (primitive_arities P) (named "IF") ≡ Some 3
if_there One = refl
if_there Two = refl

cons_there : (P : Profile) → arity_of (primitive_arities P) (named "CONS") ≡ Some 2
cons_there One = refl
cons_there Two = refl

car_there : (P : Profile) → arity_of (primitive_arities P) (named "CAR") ≡ Some 1
car_there One = refl
car_there Two = refl

cdr_there : (P : Profile) → arity_of (primitive_arities P) (named "CDR") ≡ Some 1
cdr_there One = refl
cdr_there Two = refl

module _ (es : List Object) (S : ℕ → Bool) (closed : (i j : ℕ) → S i ≡ true → rests_on es i j ≡ true → S j ≡ true) where
  module _ (i : ℕ) (here : S i ≡ true) where
    -- no name that was lost occurs in a kept event
    none_lost : (x : Object) → Within x (without_name (event_at es i)) → Lost es S i x → ⊥
    none_lost x w l =
        let names = names_added (event_at es l.place) in
        let occurs_here : some_occurs names (without_name (event_at es i)) ≡ true = passes_more (λ g. occurs g x) (λ g. occurs g (without_name (event_at es i))) (λ g h. w g h) names l.named in
        let rests : rests_on es i l.place ≡ true = and_from (ltb l.place i) _ (lt-ltb l.place i l.before) (or_left (some_occurs names (without_name (event_at es i))) _ occurs_here) in
        false≢true (sym l.left_out ∙ closed i l.place here rests)

    -- an event that is first to prove a formula that a kept event names is kept
    named_kept : (c : Object) (j : ℕ) → j < i → first_proof es c ≡ Some j → some_passes (λ d. is_place (first_proof es d) j) (theorems_named (event_at es i)) ≡ true → S j ≡ true
    named_kept c j l f h =
        closed i j here
        (and_from (ltb j i) _ (lt-ltb j i l) (or_right (some_occurs (names_added (event_at es j)) (without_name (event_at es i))) (some_passes (λ d. is_place (first_proof es d) j) (theorems_named (event_at es i))) h))

  module _ (i : ℕ) (kept_here : S i ≡ true) (P : Profile) (D E : List Block) (th others : Object) (c : Course es S i P D E th others) where
    agrees : Agree (arities P D) (arities P E) (without_name (event_at es i))
    agrees f h =
        elim (c.arities_known f) as (λ o. arity_of (arities P D) f ≡ arity_of (arities P E) f)
        [ inl k ↦ sym k | inr l ↦ absurd (none_lost i kept_here (Symbol f) (λ g k. subst (λ z. occurs z (without_name (event_at es i)) ≡ true) (sym (same_object-eq g (Symbol f) k)) h) l.0) ]

    -- a primitive is in every table
    primitive_same : (f : Name) (n : ℕ) → arity_of (primitive_arities P) f ≡ Some n → arity_of (arities P D) f ≡ arity_of (arities P E) f
    primitive_same f n h = elim (c.arities_known f) as (λ o. arity_of (arities P D) f ≡ arity_of (arities P E) f) [ inl k ↦ sym k | inr l ↦ absurd (none_some n (sym (none_below P E f l.1) ∙ h)) ]

    bring : BringSame (arities P D) (arities P E)
    bring =
        record { same_if = primitive_same (named "IF") 3 (if_there P); same_cons = primitive_same (named "CONS") 2 (cons_there P); same_car = primitive_same (named "CAR") 1 (car_there P); same_cdr = primitive_same (named "CDR") 1 (cdr_there P) }

    -- a theorem that a kept event names is there: the event that was first to prove it is kept
    theorem_known : (d : Object) → some_passes (λ g. same_object g d) (theorems_named (event_at es i)) ≡ true → Member d th → Member d others
    theorem_known d named m =
        let q = c.proved d m in
        let test : Object → Bool = λ v. begins_with "VERIFY" v && same_object (third_of v) d in
        let p = place_found test refl es q.place (and_from (begins_with "VERIFY" (event_at es q.place)) (same_object (third_of (event_at es q.place)) d) q.verifies (ap (λ z. same_object z d) q.formula ∙ same_object-refl d)) in
        let l : p.place < i = (let a = p.early in let b = q.before in omega arith) in
        let parts = and_parts (begins_with "VERIFY" (event_at es p.place)) (same_object (third_of (event_at es p.place)) d) p.passes in
        let here : is_place (first_proof es d) p.place ≡ true = ap (λ o. is_place o p.place) p.found ∙ eq-eqb p.place p.place refl in
        let more = passes_more (λ g. same_object g d) (λ g. is_place (first_proof es g) p.place) (λ g h. subst (λ z. is_place (first_proof es z) p.place ≡ true) (sym (same_object-eq g d h)) here) (theorems_named (event_at es i)) named in
        subst (λ z. Member z others) (same_object-eq (third_of (event_at es p.place)) d parts.1) (c.kept p.place l (named_kept i kept_here d p.place l p.found more) parts.0)

    abbrev proofs : List Object
    proofs = each_within (proofs_by_word (event_word (event_at es i)) (event_at es i))

    -- the formula of a step by a theorem, in a proof of the event, is among the theorems named
    named_there : (p : Object) → begins_with "THEOREM" p ≡ true → ((test : Object → Bool) → test p ≡ true → some_passes test proofs ≡ true) → some_passes (λ g. same_object g (second_of p)) (theorems_named (event_at es i)) ≡ true
    named_there p b member =
        let c = second_of p in
        passes_mapped (λ g. same_object g c) (begins_with "THEOREM") second_of proofs
        (member (λ q. begins_with "THEOREM" q && same_object (second_of q) c) (and_from (begins_with "THEOREM" p) (same_object c c) b (same_object-refl c)))

    pub has_used : HasUsed P D th (event_at es i) E others
    has_used = record { suits = suits; axioms_there = axioms_there; names_known = names_known }
      where
        suits : Suits (plain P D th) (plain P E others) (event_at es i)
        suits = record { agree = agrees; unknown = unknown_too es S i P D E th others c; bring = bring; first = c.begun }

        axioms_there : (x : Object) → Within x (without_name (event_at es i)) → Member x (axioms_of P D) → Member x (axioms_of P E)
        axioms_there x w m = elim (c.axioms_known x m) as (λ o. Member x (axioms_of P E)) [ inl n ↦ n | inr l ↦ absurd (none_lost i kept_here x w l) ]

        names_known : Each (NamesKnown (arities P D) (arities P E) P (axioms_of P D) th (axioms_of P E) others (without_name (event_at es i)) agrees axioms_there) (each_within (proofs_by_word (event_word (event_at es i)) (event_at es i)))
        names_known = each_member _ proofs (λ p member b m. theorem_known (second_of p) (named_there p b member) m)
