-- Terms of primitives alone: their one value is computed, whatever the calls of defined functions are.
use Rattle.std.proofs.Common.{◌≡◌, ◌≢◌, Bool, true, false, ◌&&◌, List, [], ◌∷◌, Option, Some, None, refl, sym, ap, ap₂, ◌∙◌, subst, ◌⊎◌, inl, inr, is_some}
use Rattle.std.proofs.lemmas.Bool.{and_parts}
use Rattle.mw_model.specs.Terms.Object.{Name, Object, same_object, NIL}
use Rattle.mw_model.specs.Terms.Term.{Term, Terms, Variable, Constant, If, Call, Lambda, NoTerms, More, Formula, Equal, Not, Or}
use Rattle.mw_model.specs.Values.Primitive.{Profile, Primitive, primitive_named, apply, choose}
use Rattle.mw_model.specs.Values.Value.{Environment, lookup, bind, Calls, OnCall, HasValue, HaveValues}
use Rattle.mw_model.specs.Values.Truth.{TrueAt, TrueFor, Each}
use Rattle.mw_model.proofs.Names.{object_cases, same_object-from}

abbrev pub value_of_call : Option Primitive → List Object → Object
value_of_call None vs = NIL
value_of_call (Some p) vs = apply p vs

module _ (P : Profile) where
  -- each call is of a primitive
  abbrev mutual
    pub calls_primitives : Term → Bool
    calls_primitives (Variable x) = true
    calls_primitives (Constant c) = true
    calls_primitives (If a b c) = calls_primitives a && (calls_primitives b && calls_primitives c)
    calls_primitives (Call f ts) = is_some (primitive_named P f) && call_primitives ts
    calls_primitives (Lambda xs b ts) = calls_primitives b && call_primitives ts

    pub call_primitives : Terms → Bool
    call_primitives NoTerms = true
    call_primitives (More t ts) = calls_primitives t && call_primitives ts

  abbrev mutual
    pub computed : Environment → Term → Object
    computed e (Variable x) = lookup e x
    computed e (Constant c) = c
    computed e (If a b c) = choose (computed e a) (computed e b) (computed e c)
    computed e (Call f ts) = value_of_call (primitive_named P f) (computed_each e ts)
    computed e (Lambda xs b ts) = computed (bind xs (computed_each e ts)) b

    pub computed_each : Environment → Terms → List Object
    computed_each e NoTerms = []
    computed_each e (More t ts) = computed e t ∷ computed_each e ts

  -- a formula of such terms, and what it says of their values
  abbrev pub is_plain : Formula → Bool
  is_plain (Equal a b) = calls_primitives a && calls_primitives b
  is_plain (Not F) = is_plain F
  is_plain (Or F G) = is_plain F && is_plain G

  abbrev pub Says : Environment → Formula → Type 0
  Says e (Equal a b) = computed e a ≡ computed e b
  Says e (Not F) = Says e F → ⊥
  Says e (Or F G) = Says e F ⊎ Says e G

  abbrev pub are_plain : List Formula → Bool
  are_plain [] = true
  are_plain (F ∷ Fs) = is_plain F && are_plain Fs

  choose_then : (e : Environment) (a b c : Term) (v : Object) → computed e a ≢ NIL → v ≡ computed e b → v ≡ computed e (If a b c)
  choose_then e a b c v n h = go (object_cases (computed e a) NIL)
    where
      go : ((same_object (computed e a) NIL ≡ true) × (computed e a ≡ NIL)) ⊎ ((same_object (computed e a) NIL ≡ false) × (computed e a ≢ NIL)) → v ≡ choose (computed e a) (computed e b) (computed e c)
      go (inl q) = absurd (n q.1)
      go (inr q) = rw q.0 h

  choose_else : (e : Environment) (a b c : Term) (v : Object) → computed e a ≡ NIL → v ≡ computed e c → v ≡ computed e (If a b c)
  choose_else e a b c v n h = let q = same_object-from (computed e a) NIL n in rw q h

  module _ (C : Calls) where
    on_primitive : (o : Option Primitive) (f : Name) (vs : List Object) → is_some o ≡ true → OnCall C o f vs (value_of_call o vs)
    on_primitive None f vs h = cc
    on_primitive (Some p) f vs h = refl

    on_primitive-only : (o : Option Primitive) (f : Name) (vs : List Object) (v : Object) → is_some o ≡ true → OnCall C o f vs v → v ≡ value_of_call o vs
    on_primitive-only None f vs v h k = cc
    on_primitive-only (Some p) f vs v h k = k

    if_computed : (e : Environment) (a b c : Term) → ((same_object (computed e a) NIL ≡ true) × (computed e a ≡ NIL)) ⊎ ((same_object (computed e a) NIL ≡ false) × (computed e a ≢ NIL)) → HasValue P C e a (computed e a) → HasValue P C e b (computed e b) → HasValue P C e c (computed e c) → HasValue P C e (If a b c) (computed e (If a b c))
    if_computed e a b c (inl q) ha hb hc = inr (subst (λ v. HasValue P C e a v) q.1 ha, subst (λ v. HasValue P C e c v) (choose_else e a b c (computed e c) q.1 refl) hc)
    if_computed e a b c (inr q) ha hb hc = inl (computed e a, q.1, ha, subst (λ v. HasValue P C e b v) (choose_then e a b c (computed e b) q.1 refl) hb)

    mutual
      pub computed_value : (e : Environment) (t : Term) → calls_primitives t ≡ true → HasValue P C e t (computed e t)
      computed_value e (Variable x) i = refl
      computed_value e (Constant c) i = refl
      computed_value e (If a b c) i =
          let p = and_parts (calls_primitives a) (calls_primitives b && calls_primitives c) i in
          let q = and_parts (calls_primitives b) (calls_primitives c) p.1 in
          if_computed e a b c (object_cases (computed e a) NIL) (computed_value e a p.0) (computed_value e b q.0) (computed_value e c q.1)
      computed_value e (Call f ts) i =
          let p = and_parts (is_some (primitive_named P f)) (call_primitives ts) i in
          (computed_each e ts, computed_values e ts p.1, on_primitive (primitive_named P f) f (computed_each e ts) p.0)
      computed_value e (Lambda xs b ts) i =
          let p = and_parts (calls_primitives b) (call_primitives ts) i in
          (computed_each e ts, computed_values e ts p.1, computed_value (bind xs (computed_each e ts)) b p.0)

      pub computed_values : (e : Environment) (ts : Terms) → call_primitives ts ≡ true → HaveValues P C e ts (computed_each e ts)
      computed_values e NoTerms i = refl
      computed_values e (More t ts) i =
          let p = and_parts (calls_primitives t) (call_primitives ts) i in
          (computed e t, computed_each e ts, refl, computed_value e t p.0, computed_values e ts p.1)

    mutual
      pub only_computed : (e : Environment) (t : Term) (v : Object) → calls_primitives t ≡ true → HasValue P C e t v → v ≡ computed e t
      only_computed e (Variable x) v i h = h
      only_computed e (Constant c) v i h = h
      only_computed e (If a b c) v i (inl h) =
          let p = and_parts (calls_primitives a) (calls_primitives b && calls_primitives c) i in
          let q = and_parts (calls_primitives b) (calls_primitives c) p.1 in
          choose_then e a b c v (λ z. h.1 (only_computed e a h.0 p.0 h.2 ∙ z)) (only_computed e b v q.0 h.3)
      only_computed e (If a b c) v i (inr h) =
          let p = and_parts (calls_primitives a) (calls_primitives b && calls_primitives c) i in
          let q = and_parts (calls_primitives b) (calls_primitives c) p.1 in
          choose_else e a b c v (sym (only_computed e a NIL p.0 h.0)) (only_computed e c v q.1 h.1)
      only_computed e (Call f ts) v i h =
          let p = and_parts (is_some (primitive_named P f)) (call_primitives ts) i in
          on_primitive-only (primitive_named P f) f h.0 v p.0 h.2 ∙ ap (value_of_call (primitive_named P f)) (only_computed_each e ts h.0 p.1 h.1)
      only_computed e (Lambda xs b ts) v i h =
          let p = and_parts (calls_primitives b) (call_primitives ts) i in
          only_computed (bind xs h.0) b v p.0 h.2 ∙ ap (λ vs. computed (bind xs vs) b) (only_computed_each e ts h.0 p.1 h.1)

      pub only_computed_each : (e : Environment) (ts : Terms) (vs : List Object) → call_primitives ts ≡ true → HaveValues P C e ts vs → vs ≡ computed_each e ts
      only_computed_each e NoTerms vs i h = h
      only_computed_each e (More t ts) vs i h =
          let p = and_parts (calls_primitives t) (call_primitives ts) i in
          h.2 ∙ ap₂ ◌∷◌ (only_computed e t h.0 p.0 h.3) (only_computed_each e ts h.1 p.1 h.4)

    mutual
      pub says_true : (e : Environment) (F : Formula) → is_plain F ≡ true → Says e F → TrueAt P C e F
      says_true e (Equal a b) i h =
          let p = and_parts (calls_primitives a) (calls_primitives b) i in
          λ k. k (computed e a) (computed_value e a p.0) (subst (λ v. HasValue P C e b v) (sym h) (computed_value e b p.1))
      says_true e (Not F) i h = λ k. true_says e F i k h
      says_true e (Or F G) i (inl h) = λ k l. k (says_true e F (and_parts (is_plain F) (is_plain G) i).0 h)
      says_true e (Or F G) i (inr h) = λ k l. l (says_true e G (and_parts (is_plain F) (is_plain G) i).1 h)

      pub true_says : (e : Environment) (F : Formula) → is_plain F ≡ true → TrueAt P C e F → (Says e F → ⊥) → ⊥
      true_says e (Equal a b) i h k =
          let p = and_parts (calls_primitives a) (calls_primitives b) i in
          h (λ v q r. k (sym (only_computed e a v p.0 q) ∙ only_computed e b v p.1 r))
      true_says e (Not F) i h k = k (λ s. h (says_true e F i s))
      true_says e (Or F G) i h k =
          let p = and_parts (is_plain F) (is_plain G) i in
          h (λ q. true_says e F p.0 q (λ s. k (inl s))) (λ q. true_says e G p.1 q (λ s. k (inr s)))

    pub say_true : (Fs : List Formula) → are_plain Fs ≡ true → ((e : Environment) → Each (Says e) Fs) → Each (TrueFor P C) Fs
    say_true [] i h = tt
    say_true (F ∷ Fs) i h =
        let p = and_parts (is_plain F) (are_plain Fs) i in
        (λ e. says_true e F p.0 (h e).0, say_true Fs p.1 (λ e. (h e).1))
