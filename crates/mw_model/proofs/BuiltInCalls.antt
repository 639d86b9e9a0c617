-- The answers of descending functions are values: those of their blocks, by the levels that their falling arguments need.
use Rattle.std.proofs.Common.{◌≡◌, ◌≢◌, ℕ, zero, suc, ◌<◌, ◌≤◌, Bool, true, false, ◌&&◌, ◌||◌, not, cond, List, [], ◌∷◌, map, Option, Some, None, refl, sym, subst, ◌⊎◌, inl, inr, arith, is_some}
use Rattle.std.proofs.lemmas.Bool.{and_parts, or_cases, both_ways, not-true, false≢true}
use Rattle.mw_model.specs.Terms.Object.{Name, Object, same_name, same_object, NIL}
use Rattle.mw_model.specs.Terms.Term.{Term, Terms, Variable, Constant, If, Call, Lambda, NoTerms, More, is_among}
use Rattle.mw_model.specs.Values.Primitive.{Profile, Primitive, primitive_named, is_pair, choose}
use Rattle.mw_model.specs.Values.Definition.{Function, Block}
use Rattle.mw_model.specs.Values.Value.{Environment, lookup, bind, Calls, OnCall, HasValue, HaveValues, OnFunction, CallAtSomeDepth, block_calls}
use Rattle.mw_model.specs.BuiltIns.BuiltIn.{block_of}
use Rattle.mw_model.proofs.Names.{same_name-eq, same_name-refl, name_cases, object_cases}
use Rattle.mw_model.proofs.Depth.{Now, block_fold}
use Rattle.mw_model.proofs.BuiltInValue.{Answers, answer_on, value_at, values_at, value_for, pairs, except, answer_within, calls_among, all_calls_among, is_part, tests_pair, actual_for, descends, all_descend, falling, names, are_descending, levels, answers}
use Rattle.mw_model.proofs.BuiltInFalls.{lookup-bind, is_part-fewer, actual_for-value, tests_pair-pair}

module _ (P : Profile) (C : Calls) (R : Answers) where
  if_value : (e : Environment) (a b c : Term) (u v w : Object) → HasValue P C e a u → (u ≢ NIL → HasValue P C e b v) → (u ≡ NIL → HasValue P C e c w) → HasValue P C e (If a b c) (choose u v w)
  if_value e a b c u v w ha hb hc = go (object_cases u NIL)
    where
      go : ((same_object u NIL ≡ true) × (u ≡ NIL)) ⊎ ((same_object u NIL ≡ false) × (u ≢ NIL)) → HasValue P C e (If a b c) (choose u v w)
      go (inl q) = subst (λ t. HasValue P C e (If a b c) (cond t w v)) (sym q.0) (inr (subst (λ z. HasValue P C e a z) q.1 ha, hc q.1))
      go (inr q) = subst (λ t. HasValue P C e (If a b c) (cond t w v)) (sym q.0) (inl (u, q.1, ha, hb q.1))

  call_value : (o : Option Primitive) (f : Name) (vs : List Object) (b : Bool) → is_some o || b ≡ true → (b ≡ true → C f vs (R f vs)) → OnCall C o f vs (answer_on o (R f) vs)
  call_value None f vs b i h = h i
  call_value (Some p) f vs b i h = refl

  -- terms whose calls have the answers of R
  module _ (N : List Name) (old : (f : Name) → is_among f N ≡ true → (vs : List Object) → C f vs (R f vs)) where
    mutual
      pub value_among : (e : Environment) (t : Term) → calls_among P N t ≡ true → HasValue P C e t (value_at P R e t)
      value_among e (Variable x) i = refl
      value_among e (Constant c) i = refl
      value_among e (If a b c) i =
          let p = and_parts (calls_among P N a) (calls_among P N b && calls_among P N c) i in
          let q = and_parts (calls_among P N b) (calls_among P N c) p.1 in
          if_value e a b c (value_at P R e a) (value_at P R e b) (value_at P R e c) (value_among e a p.0) (λ _. value_among e b q.0) (λ _. value_among e c q.1)
      value_among e (Call f ts) i =
          let p = and_parts (all_calls_among P N ts) (is_some (primitive_named P f) || is_among f N) i in
          (values_at P R e ts, values_among e ts p.0, call_value (primitive_named P f) f (values_at P R e ts) (is_among f N) p.1 (λ h. old f h (values_at P R e ts)))
      value_among e (Lambda xs b ts) i =
          let p = and_parts (all_calls_among P N ts) (calls_among P N b) i in
          (values_at P R e ts, values_among e ts p.0, value_among (bind xs (values_at P R e ts)) b p.1)

      pub values_among : (e : Environment) (ts : Terms) → all_calls_among P N ts ≡ true → HaveValues P C e ts (values_at P R e ts)
      values_among e NoTerms i = refl
      values_among e (More t ts) i =
          let p = and_parts (calls_among P N t) (all_calls_among P N ts) i in
          (value_at P R e t, values_at P R e ts, refl, value_among e t p.0, values_among e ts p.1)

    -- and those of g, where the actual for x has fewer than n pairs
    module _ (g x : Name) (xs : List Name) (n : ℕ) (recursive : (vs : List Object) → pairs (value_for x xs vs) < n → C g vs (R g vs)) where
      known_more : (e : Environment) (k : Bool) → (k ≡ true → is_pair (lookup e x) ≡ true) → (a : Term) → value_at P R e a ≢ NIL → (k ≡ true) ⊎ (tests_pair P x a ≡ true) → is_pair (lookup e x) ≡ true
      known_more e k known a y (inl h) = known h
      known_more e k known a y (inr h) = tests_pair-pair P R e x a h y

      named_call : (e : Environment) → pairs (lookup e x) ≤ n → (k : Bool) → (k ≡ true → is_pair (lookup e x) ≡ true) → (f : Name) (ts : Terms) → (is_among f N ≡ true) ⊎ (same_name g f && (k && is_part P x (actual_for x xs ts)) ≡ true) → C f (values_at P R e ts) (R f (values_at P R e ts))
      named_call e le k known f ts (inl h) = old f h (values_at P R e ts)
      named_call e le k known f ts (inr h) =
          let p = and_parts (same_name g f) (k && is_part P x (actual_for x xs ts)) h in
          let q = and_parts k (is_part P x (actual_for x xs ts)) p.1 in
          let l = is_part-fewer P R e x (actual_for x xs ts) q.1 (known q.0) in
          let l' = subst (λ v. pairs v < pairs (lookup e x)) (actual_for-value P R e x xs ts) l in
          let l'' : pairs (value_for x xs (values_at P R e ts)) < n = omega (arith, l', le) in
          subst (λ z. C z (values_at P R e ts) (R z (values_at P R e ts))) (same_name-eq g f p.0) (recursive (values_at P R e ts) l'')

      mutual
        pub value_descending : (e : Environment) → pairs (lookup e x) ≤ n → (k : Bool) → (k ≡ true → is_pair (lookup e x) ≡ true) → (t : Term) → descends P N g x xs k t ≡ true → HasValue P C e t (value_at P R e t)
        value_descending e le k known (Variable y) i = refl
        value_descending e le k known (Constant c) i = refl
        value_descending e le k known (If a b c) i =
            let p = and_parts (descends P N g x xs k a) (descends P N g x xs (k || tests_pair P x a) b && descends P N g x xs k c) i in
            let q = and_parts (descends P N g x xs (k || tests_pair P x a) b) (descends P N g x xs k c) p.1 in
            if_value e a b c (value_at P R e a) (value_at P R e b) (value_at P R e c) (value_descending e le k known a p.0) (λ y. value_descending e le (k || tests_pair P x a) (λ h. known_more e k known a y (or_cases k (tests_pair P x a) h)) b q.0) (λ _. value_descending e le k known c q.1)
        value_descending e le k known (Call f ts) i =
            let p = and_parts (all_descend P N g x xs k ts) (is_some (primitive_named P f) || (is_among f N || (same_name g f && (k && is_part P x (actual_for x xs ts))))) i in
            (values_at P R e ts, values_descending e le k known ts p.0, call_value (primitive_named P f) f (values_at P R e ts) (is_among f N || (same_name g f && (k && is_part P x (actual_for x xs ts)))) p.1 (λ h. named_call e le k known f ts (or_cases (is_among f N) (same_name g f && (k && is_part P x (actual_for x xs ts))) h)))
        value_descending e le k known (Lambda ys b ts) i =
            let p = and_parts (all_descend P N g x xs k ts) (calls_among P N b) i in
            (values_at P R e ts, values_descending e le k known ts p.0, value_among (bind ys (values_at P R e ts)) b p.1)

        pub values_descending : (e : Environment) → pairs (lookup e x) ≤ n → (k : Bool) → (k ≡ true → is_pair (lookup e x) ≡ true) → (ts : Terms) → all_descend P N g x xs k ts ≡ true → HaveValues P C e ts (values_at P R e ts)
        values_descending e le k known NoTerms i = refl
        values_descending e le k known (More t ts) i =
            let p = and_parts (descends P N g x xs k t) (all_descend P N g x xs k ts) i in
            (value_at P R e t, values_at P R e ts, refl, value_descending e le k known t p.0, values_descending e le k known ts p.1)

-- each call under these names has its answer
abbrev pub Agree : Calls → Answers → List Name → Type 0
Agree C R N = (f : Name) → is_among f N ≡ true → (vs : List Object) → C f vs (R f vs)

pub not_among-other : (f g : Name) (N : List Name) → is_among g N ≡ false → is_among f N ≡ true → same_name g f ≡ false
not_among-other f g N new h = go (name_cases g f)
  where
    go : ((same_name g f ≡ true) × (g ≡ f)) ⊎ ((same_name g f ≡ false) × (g ≢ f)) → same_name g f ≡ false
    go (inl q) = absurd (both_ways (is_among g N) new (subst (λ z. is_among z N ≡ true) (sym q.1) h))
    go (inr q) = q.0

-- one function in a block of its own
module _ (P : Profile) (C : Calls) (R : Answers) (h : Function) (N : List Name) (agree : Agree C R N) (falls : descends P N h.name (falling P N h) h.formals false h.body ≡ true) (new : is_among h.name N ≡ false) where
  abbrev Also : Calls
  Also = Now P C (h ∷ [])

  agree_except : (answer : List Object → Object) → Agree Also (except R h.name answer) N
  agree_except answer f i vs =
      subst (λ b. OnFunction C (CallAtSomeDepth P C (h ∷ [])) (cond b (Some h) None) f vs (cond b (answer vs) (R f vs))) (sym (not_among-other f h.name N new i)) (agree f i vs)

  agree_here : (answer : List Object → Object) (vs : List Object) → CallAtSomeDepth P C (h ∷ []) h vs (answer vs) → Also h.name vs (except R h.name answer h.name vs)
  agree_here answer vs v =
      subst (λ b. OnFunction C (CallAtSomeDepth P C (h ∷ [])) (cond b (Some h) None) h.name vs (cond b (answer vs) (R h.name vs))) (sym (same_name-refl h.name)) v

  pub answer_within-value : (k : ℕ) (vs : List Object) → pairs (value_for (falling P N h) h.formals vs) < k → CallAtSomeDepth P C (h ∷ []) h vs (answer_within P R h k vs)
  unfolding answer_within
  answer_within-value zero vs l = absurd (omega (arith, l))
  answer_within-value (suc k) vs l =
      let answer = answer_within P R h k in
      let at = lookup-bind (falling P N h) h.formals vs in
      let n : pairs (lookup (bind h.formals vs) (falling P N h)) ≤ k = subst (λ v. pairs v ≤ k) (sym at) (omega (arith, l)) in
      block_fold P C (h ∷ []) h vs (value_at P (except R h.name answer) (bind h.formals vs) h.body)
      (value_descending P Also (except R h.name answer) N (agree_except answer) h.name (falling P N h) h.formals k (λ us lt. agree_here answer us (answer_within-value k us lt)) (bind h.formals vs) n false (λ e. absurd (false≢true e)) h.body falls)

-- the parts of the test
module _ (P : Profile) (h : Function) (B : List Function) (c : are_descending P (h ∷ B) ≡ true) where
  parts : (descends P (names B) h.name (falling P (names B) h) h.formals false h.body ≡ true) × (not (is_among h.name (names B)) && are_descending P B ≡ true)
  parts = and_parts (descends P (names B) h.name (falling P (names B) h) h.formals false h.body) (not (is_among h.name (names B)) && are_descending P B) c

  pub descending_falls : descends P (names B) h.name (falling P (names B) h) h.formals false h.body ≡ true
  descending_falls = parts.0

  pub descending_new : is_among h.name (names B) ≡ false
  descending_new = not-true (is_among h.name (names B)) (and_parts (not (is_among h.name (names B))) (are_descending P B) parts.1).0

  pub descending_rest : are_descending P B ≡ true
  descending_rest = (and_parts (not (is_among h.name (names B))) (are_descending P B) parts.1).1

-- each in a block of its own
abbrev pub alone : List Function → List Block
alone B = map block_of B

-- the answer of the newest
abbrev pub own_answer : Profile → Function → List Function → List Object → Object
own_answer P h B us = answer_within P (answers P B) h (levels P (names B) h us) us

module _ (P : Profile) where
  pub own_answer-value : (h : Function) (B : List Function) → are_descending P (h ∷ B) ≡ true → Agree (block_calls P (alone B)) (answers P B) (names B) → (vs : List Object) → CallAtSomeDepth P (block_calls P (alone B)) (h ∷ []) h vs (own_answer P h B vs)
  own_answer-value h B c a vs =
      answer_within-value P (block_calls P (alone B)) (answers P B) h (names B) a (descending_falls P h B c) (descending_new P h B c) (levels P (names B) h vs) vs (omega arith)

  answers_agree-step : (h : Function) (B : List Function) → are_descending P (h ∷ B) ≡ true → Agree (block_calls P (alone B)) (answers P B) (names B) → Agree (block_calls P (alone (h ∷ B))) (answers P (h ∷ B)) (names (h ∷ B))
  unfolding answers
  answers_agree-step h B c a f i vs = go (or_cases (same_name f h.name) (is_among f (names B)) i)
    where
      go : (same_name f h.name ≡ true) ⊎ (is_among f (names B) ≡ true) → Now P (block_calls P (alone B)) (h ∷ []) f vs (except (answers P B) h.name (own_answer P h B) f vs)
      go (inl e) =
          subst (λ z. Now P (block_calls P (alone B)) (h ∷ []) z vs (except (answers P B) h.name (own_answer P h B) z vs)) (sym (same_name-eq f h.name e))
          (agree_here P (block_calls P (alone B)) (answers P B) h (names B) a (descending_falls P h B c) (descending_new P h B c) (own_answer P h B) vs (own_answer-value h B c a vs))
      go (inr i) = agree_except P (block_calls P (alone B)) (answers P B) h (names B) a (descending_falls P h B c) (descending_new P h B c) (own_answer P h B) f i vs

  pub answers_agree : (B : List Function) → are_descending P B ≡ true → Agree (block_calls P (alone B)) (answers P B) (names B)
  answers_agree [] c = λ f i vs. absurd (false≢true i)
  answers_agree (h ∷ B) c = answers_agree-step h B c (answers_agree B (descending_rest P h B c))
