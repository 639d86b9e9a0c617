-- Gathering the proofs below a proof.
use Rattle.std.proofs.Common.{◌≡◌, ℕ, suc, ◌+◌, ◌==◌, ◌<◌, ◌≤◌, Bool, true, false, List, [], ◌∷◌, ◌++◌, length, length-append, get_or, cond, eqb, if◌then◌else◌, append_assoc, append-nil, refl, sym, ap, ◌∙◌, subst, arith, ◌⊎◌, inl, inr}
use Rattle.std.specs.List.{list_any, IsDistinct}
use Rattle.std.proofs.lemmas.Bool.{cases_lt, or_left, or_right, or_cases, eqb-true, eq-eqb}
use Rattle.std.proofs.lemmas.List.Folds.{list_any-append, list_any_at}
use Rattle.std.proofs.lemmas.Map.Keys.{IsDistinct-from_apart}
use Rattle.std.proofs.lemmas.Map.Steps.{length-le_from_distinct_below}
use Rattle.std.proofs.Math.ListN.{get_or-append}
use Rattle.std.proofs.lemmas.List.{get_or_read_under}
use Rattle.mw_model.specs.Terms.Object.{Object, Natural, Symbol, Pair, same_object, NIL, is_member}
use Rattle.mw_model.proofs.Names.{same_object-eq, same_object-refl}
use Rattle.mw_heap.specs.Objects.{object_at, IsIn, Grows}
use Rattle.mw_heap.proofs.Objects.{object_at-Grows}
use Rattle.mw_proof.specs.Step.{has_proof_shape, subproofs_of}
use Rattle.mw_proof.specs.Judgments.{HasStepForSome}
use Rattle.mw_rules.proofs.CallerLemmas.{keys_more}
use Rattle.mw_proof.specs.Gathered.{IsAmong, AreIn, HasMembers, HasSubproofs, HoldsAlone, AddsMembers, AddsSubproofs, AreGathered, IsSubproof, IsMadeOf, itself, subproof}

pub IsAmong-append : (keys more : List ℕ) (x : ℕ) → IsAmong keys x → IsAmong (keys ++ more) x
IsAmong-append keys more x h = list_any-append (λ y. x == y) keys more ∙ or_left (list_any (λ y. x == y) keys) (list_any (λ y. x == y) more) h

pub HasMembers-append : (os : List Object) (keys more : List ℕ) (n : ℕ) (x : Object) → HasMembers os keys n x → HasMembers os (keys ++ more) n x
HasMembers-append os keys more n (Pair a r) h = ((h.0.0, h.0.1, IsAmong-append keys more h.0.0 h.0.2, h.0.3), HasMembers-append os keys more n r h.1)
HasMembers-append os keys more n (Natural m) h = tt
HasMembers-append os keys more n (Symbol s) h = tt

pub HasMembers-below : (os : List Object) (keys : List ℕ) (m n : ℕ) → m ≤ n → (x : Object) → HasMembers os keys m x → HasMembers os keys n x
HasMembers-below os keys m n l (Pair a r) h = ((h.0.0, h.0.1, h.0.2, omega (arith, l, h.0.3)), HasMembers-below os keys m n l r h.1)
HasMembers-below os keys m n l (Natural k) h = tt
HasMembers-below os keys m n l (Symbol s) h = tt

-- the walk along a list: what is yet to be held
pub record Walks (os : List Object) (old keys : List ℕ) (list rest : ℕ) : Type 0 where
  pub more : List ℕ
  pub longer : keys ≡ old ++ more
  pub within : AreIn os keys
  pub rest_before : rest ≤ list
  pub held : (later : List ℕ) → HasMembers os (keys ++ later) rest (object_at os rest) → HasMembers os (keys ++ later) list (object_at os list)
  pub added : (q : ℕ) → IsAmong keys q → IsAmong old q ⊎ ((q < list) × (is_member (object_at os q) (object_at os list) ≡ true))
  pub ahead : (o : Object) → is_member o (object_at os rest) ≡ true → is_member o (object_at os list) ≡ true

module _ (os : List Object) (old : List ℕ) (list : ℕ) where
  pub walk_starts : AreIn os old → Walks os old old list list
  walk_starts within = record {
    more = [];
    longer = sym (append-nil old);
    within = within;
    rest_before = omega arith;
    held = λ later h. h;
    added = λ q h. inl h;
    ahead = λ o h. h;
  }

  module _ (keys : List ℕ) (rest : ℕ) (w : Walks os old keys list rest) where
    pub walk_goes_on : (q r : ℕ) (new : List ℕ) (b : Bool) → IsIn os q × IsIn os r × (object_at os rest ≡ Pair (object_at os q) (object_at os r)) → (q < rest) × (r < rest) → new ≡ (if b then keys else keys ++ q ∷ []) → list_any (λ y. q == y) new ≡ true → ((x : ℕ) → list_any (λ y. x == y) new ≡ cond (q == x) true (list_any (λ y. x == y) keys)) → Walks os old new list r
    walk_goes_on q r new b shows older inserted here says =
        let m = keys_more b keys q in
        let longer : new ≡ keys ++ m.0 = inserted ∙ m.1 in
        record {
          more = w.more ++ m.0;
          longer = longer ∙ (ap (λ k. k ++ m.0) w.longer ∙ append_assoc old w.more m.0);
          within = λ x h. inside x (q == x) refl (sym (says x) ∙ h);
          rest_before = omega (arith, older, w.rest_before);
          held = λ later h. subst (λ k. HasMembers os k list (object_at os list)) (sym (whole m.0 longer later)) (w.held (m.0 ++ later) (subst (λ k. HasMembers os k rest (object_at os rest)) (whole m.0 longer later) (here_on later h)));
          added = λ x h. came x (q == x) refl (sym (says x) ∙ h);
          ahead = λ o h. w.ahead o (ap (is_member o) shows.2 ∙ or_right (same_object o (object_at os q)) (is_member o (object_at os r)) h);
        }
      where
        whole : (more : List ℕ) → new ≡ keys ++ more → (later : List ℕ) → new ++ later ≡ keys ++ (more ++ later)
        whole more e later = ap (λ k. k ++ later) e ∙ append_assoc keys more later

        here_on : (later : List ℕ) → HasMembers os (new ++ later) r (object_at os r) → HasMembers os (new ++ later) rest (object_at os rest)
        here_on later h =
            let l : r ≤ rest = omega (arith, older) in
            subst (HasMembers os (new ++ later) rest) (sym shows.2) ((q, refl, IsAmong-append new later q here, older.0), HasMembers-below os (new ++ later) r rest l (object_at os r) h)

        first_member : is_member (object_at os q) (object_at os rest) ≡ true
        first_member = ap (is_member (object_at os q)) shows.2 ∙ or_left (same_object (object_at os q) (object_at os q)) (is_member (object_at os q) (object_at os r)) (same_object-refl (object_at os q))

        came : (x : ℕ) (t : Bool) → (q == x) ≡ t → cond (q == x) true (list_any (λ y. x == y) keys) ≡ true → IsAmong old x ⊎ ((x < list) × (is_member (object_at os x) (object_at os list) ≡ true))
        came x true e h = inr (subst (λ y. (y < list) × (is_member (object_at os y) (object_at os list) ≡ true)) (eqb-true q x e) (omega (arith, older, w.rest_before), w.ahead (object_at os q) first_member))
        came x false e h = w.added x (sym (ap (λ s. cond s true (list_any (λ y. x == y) keys)) e) ∙ h)

        inside : (x : ℕ) (t : Bool) → (q == x) ≡ t → cond (q == x) true (list_any (λ y. x == y) keys) ≡ true → IsIn os x
        inside x true e h = subst (IsIn os) (eqb-true q x e) shows.0
        inside x false e h = w.within x (sym (ap (λ s. cond s true (list_any (λ y. x == y) keys)) e) ∙ h)

    -- at the end of the list
    pub walk_ends : HasMembers os keys rest (object_at os rest) → AddsMembers os list old keys
    walk_ends h = record {
      more = w.more;
      longer = w.longer;
      within = w.within;
      held = subst (λ k. HasMembers os k list (object_at os list)) (append-nil keys) (w.held [] (subst (λ k. HasMembers os k rest (object_at os rest)) (sym (append-nil keys)) h));
      added = w.added;
    }

-- the members of the list of subproofs are those of a proof
pub adds : (os : List Object) (p list : ℕ) (old new : List ℕ) → AddsMembers os list old new → list ≤ p → object_at os list ≡ subproofs_of (object_at os p) → has_proof_shape (object_at os p) ≡ true → AddsSubproofs os p old new
adds os p list old new a before is shape = record {
  more = a.more;
  longer = a.longer;
  within = a.within;
  held = λ s. subst (HasMembers os new p) is (HasMembers-below os new list p before (object_at os list) a.held);
  added = λ q k. elim (a.added q k) [ inl m ↦ inl m | inr m ↦ inr (omega (arith, m.0, before), (shape, ap (is_member (object_at os q)) (sym is) ∙ m.1)) ];
}

-- what is no pair has no members
pub HasMembers-nil : (os : List Object) (keys : List ℕ) (n : ℕ) (x : Object) → same_object x NIL ≡ true → HasMembers os keys n x
HasMembers-nil os keys n x h = subst (HasMembers os keys n) (sym (same_object-eq x NIL h)) tt

-- what was found in a heap that grew was found in the older one
HasMembers-older : (os new : List Object) (keys : List ℕ) (n : ℕ) (x : Object) → Grows os new → n ≤ length os → HasMembers new keys n x → HasMembers os keys n x
HasMembers-older os new keys n (Pair a r) g l h = ((h.0.0, sym (object_at-Grows os new g h.0.0 (omega (arith, l, h.0.3))) ∙ h.0.1, h.0.2, h.0.3), HasMembers-older os new keys n r g l h.1)
HasMembers-older os new keys n (Natural m) g l h = tt
HasMembers-older os new keys n (Symbol s) g l h = tt

pub adds-older : (os new : List Object) (p : ℕ) (old more : List ℕ) → Grows os new → IsIn os p → AreIn os old → AddsSubproofs new p old more → AddsSubproofs os p old more
adds-older os new p old more g p_in all_in a =
    let same = object_at-Grows os new g in
    record {
      more = a.more;
      longer = a.longer;
      within = λ q h. elim (a.added q h) [ inl m ↦ all_in q m | inr m ↦ omega (arith, m.0, p_in) ];
      held = λ shape. subst (λ o. HasMembers os more p (subproofs_of o)) (same p p_in) (HasMembers-older os new more p (subproofs_of (object_at new p)) g (omega (arith, p_in)) (a.held (ap has_proof_shape (same p p_in) ∙ shape)));
      added = λ q h. elim (a.added q h) [ inl m ↦ inl m | inr m ↦ inr (m.0, subst (λ o. IsSubproof o (object_at os q)) (same p p_in) (subst (IsSubproof (object_at new p)) (same q (omega (arith, m.0, p_in))) m.1)) ];
    }

-- places in a list
pub read_at : (x : ℕ) (xs keys : List ℕ) (i n : ℕ) → x ≡ get_or xs i x → xs ≡ keys → i < n → n ≡ length keys → x ≡ get_or keys i 0
read_at x xs keys i n e same l len = get_or_read_under keys i n x 0 (e ∙ ap (λ k. get_or k i x) same) l len

pub IsAmong-at : (keys : List ℕ) (i : ℕ) → i < length keys → IsAmong keys (get_or keys i 0)
IsAmong-at keys i l = list_any_at (λ y. get_or keys i 0 == y) keys i 0 l (eq-eqb (get_or keys i 0) (get_or keys i 0) refl)

pub place : (keys : List ℕ) (x : ℕ) → IsAmong keys x → (i : ℕ) × (i < length keys) × (get_or keys i 0 ≡ x)
place [] x h = cc
place (y ∷ keys) x h = go (or_cases (x == y) (list_any (λ z. x == z) keys) h) (place keys x)
  where
    go : ((x == y) ≡ true) ⊎ IsAmong keys x → (IsAmong keys x → (i : ℕ) × (i < length keys) × (get_or keys i 0 ≡ x)) → (i : ℕ) × (i < length (y ∷ keys)) × (get_or (y ∷ keys) i 0 ≡ x)
    go (inl e) ih = (0, omega arith, sym (eqb-true x y e))
    go (inr k) ih = let p = ih k in (suc p.0, omega (arith, p.1), p.2)

-- the proofs up to the next one have their subproofs among all
pub record Gathers (os : List Object) (keys : List ℕ) (proof next : ℕ) : Type 0 where
  pub here : IsAmong keys proof
  pub within : AreIn os keys
  pub next_within : next ≤ length keys
  pub held : (i : ℕ) → i < next → HasSubproofs os keys (get_or keys i 0)
  pub made_of : (q : ℕ) → IsAmong keys q → IsMadeOf (object_at os proof) (object_at os q)

-- at first there is the proof alone
pub holds_alone : (keys old : List ℕ) (proof : ℕ) → old ≡ [] → IsAmong keys proof → ((x : ℕ) → list_any (λ y. x == y) keys ≡ cond (proof == x) true (list_any (λ y. x == y) old)) → HoldsAlone keys proof
holds_alone keys old proof empty here says = (here, λ q h. only q (proof == q) refl h)
  where
    only : (q : ℕ) (t : Bool) → (proof == q) ≡ t → IsAmong keys q → proof ≡ q
    only q true e h = eqb-true proof q e
    only q false e h =
        let none : list_any (λ y. q == y) [] ≡ true = sym (ap (λ s. cond s true (list_any (λ y. q == y) [])) e) ∙ (sym (says q ∙ ap (λ l. cond (proof == q) true (list_any (λ y. q == y) l)) empty) ∙ h) in
        cc

pub gathers_starts : (os : List Object) (keys : List ℕ) (proof : ℕ) → IsIn os proof → HoldsAlone keys proof → Gathers os keys proof 0
gathers_starts os keys proof within alone = record {
  here = alone.0;
  within = λ q h. subst (IsIn os) (alone.1 q h) within;
  next_within = omega arith;
  held = λ i k. absurd (omega (arith, k));
  made_of = λ q h. subst (λ r. IsMadeOf (object_at os proof) (object_at os r)) (alone.1 q h) itself;
}

module _ (os : List Object) (keys : List ℕ) (proof next : ℕ) (g : Gathers os keys proof next) where
  pub next_in : next < length keys → IsIn os (get_or keys next 0)
  next_in l = g.within (get_or keys next 0) (IsAmong-at keys next l)

  -- there are no more of them than objects
  pub few : IsDistinct eqb keys → length keys ≤ length os
  few distinct = length-le_from_distinct_below keys (length os) distinct g.within

  pub gathers_more : (new : List ℕ) → next < length keys → AddsSubproofs os (get_or keys next 0) keys new → Gathers os new proof (next + 1)
  gathers_more new l a = record {
    here = subst (λ k. IsAmong k proof) (sym a.longer) (IsAmong-append keys a.more proof g.here);
    within = a.within;
    next_within = omega (arith, l, ap length a.longer, length-append keys a.more);
    held = λ i h. go i (cases_lt i next) h;
    made_of = λ q h. elim (a.added q h) [ inl k ↦ g.made_of q k | inr k ↦ subproof (object_at os (get_or keys next 0)) (object_at os q) (g.made_of (get_or keys next 0) (IsAmong-at keys next l)) k.1 ];
  }
    where
      same : (i : ℕ) → i < length keys → get_or keys i 0 ≡ get_or new i 0
      same i k = sym (ap (λ ks. get_or ks i 0) a.longer ∙ get_or-append keys a.more 0 i k)

      kept : (p : ℕ) → HasSubproofs os keys p → HasSubproofs os new p
      kept p h shape = subst (λ k. HasMembers os k p (subproofs_of (object_at os p))) (sym a.longer) (HasMembers-append os keys a.more p (subproofs_of (object_at os p)) (h shape))

      go : (i : ℕ) → (i < next) ⊎ (next ≤ i) → i < next + 1 → HasSubproofs os new (get_or new i 0)
      go i (inl k) h = subst (HasSubproofs os new) (same i (omega arith)) (kept (get_or keys i 0) (g.held i k))
      go i (inr k) h =
          let e : next ≡ i = omega arith in
          let e' : get_or keys next 0 ≡ get_or new i 0 = same next l ∙ ap (λ j. get_or new j 0) e in
          subst (HasSubproofs os new) e' a.held

  pub gathered : length keys ≤ next → IsDistinct eqb keys → AreGathered os keys proof
  gathered l distinct = record {
    here = g.here;
    within = g.within;
    held = λ p h. let q = place keys p h in subst (HasSubproofs os keys) q.2 (g.held q.0 (omega (arith, q.1, l)));
    no_others = record { distinct = distinct; each = g.made_of };
  }

-- out of memory before the first
pub none_decided : (os : List Object) (proof steps : ℕ) → HasStepForSome os proof steps steps
none_decided os proof steps = ([], record { distinct = IsDistinct-from_apart eqb [] (λ i j d k l. absurd (omega arith)); each = λ q h. cc }, omega arith)

-- those before the next one were decided, or it too
pub some_decided : (os : List Object) (keys : List ℕ) (proof next before after : ℕ) → Gathers os keys proof next → IsDistinct eqb keys → after ≤ before + length keys → HasStepForSome os proof before after
some_decided os keys proof next before after g distinct l = (keys, record { distinct = distinct; each = g.made_of }, l)

-- what holds of those before the next one and of it holds of one more
pub holds_more : (P : ℕ → Type 0) (keys new more : List ℕ) (next : ℕ) → next < length keys → new ≡ keys ++ more → ((i : ℕ) → i < next → P (get_or keys i 0)) → P (get_or keys next 0) → (i : ℕ) → i < next + 1 → P (get_or new i 0)
holds_more P keys new more next l longer h p i k = go (cases_lt i next)
  where
    same : (j : ℕ) → j < length keys → get_or keys j 0 ≡ get_or new j 0
    same j m = sym (ap (λ ks. get_or ks j 0) longer ∙ get_or-append keys more 0 j m)

    go : (i < next) ⊎ (next ≤ i) → P (get_or new i 0)
    go (inl m) = subst P (same i (omega (arith, m, l))) (h i m)
    go (inr m) = let e : next ≡ i = omega (arith, k, m) in subst (λ j. P (get_or new j 0)) e (subst P (same next l) p)
