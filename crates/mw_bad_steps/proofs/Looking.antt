-- Looking for the first bad step keeps what is left to look at.
use Rattle.std.proofs.Common.{◌≡◌, ℕ, suc, ◌==◌, nat_eq, Bool, true, false, ◌⊎◌, inl, inr, cond, List, [], ◌∷◌, ◌++◌, map, Option, Some, None, refl, sym, ap, ◌∙◌, subst, append_assoc, length, arith, Result, Ok, Err, IfOk}
use Rattle.std.specs.List.{list_any}
use Rattle.std.proofs.lemmas.Bool.{and_parts, and_from, eqb-true}
use Rattle.mw_model.specs.Terms.Object.{Object, Natural, Symbol, Pair, third_of}
use Rattle.mw_model.specs.Values.Primitive.{is_pair}
use Rattle.mw_heap.specs.Objects.{object_at}
use Rattle.mw_heap.specs.Parts.{part_at}
use Rattle.mw_proof.specs.Judging.{Basis, is_proof_on, are_proofs_on, is_step_on, have_conclusions}
use Rattle.mw_bad_steps.specs.declared.bad_step.Open.{Open}
use Rattle.mw_commands.specs.Commands.ExplanationSteps.{Placed, placed, or_here, in_subproof, first_bad, first_bad_among}
use Rattle.mw_bad_steps.proofs.Paths.{Reaches, Walks, Begins, IsLooking}
use Rattle.mw_bad_steps.specs.BadStep.{IsUnopened, Opens, number_of}
use Rattle.std.specs.Option.{option_or}
use Rattle.mw_bad_steps.proofs.OneStep.{proof_holds, subproofs_hold, step_concludes, proof_by_step}

module _ (good : Object → Bool) where
  here_none : (p : Object) (inside : Option Placed) → good p ≡ true → or_here good p inside ≡ None
  here_none p inside h = ap (λ t. cond t None (option_or inside (Some (placed [] p)))) h

  here_some : (p : Object) (b : Placed) → good p ≡ false → or_here good p (Some b) ≡ Some b
  here_some p b h = ap (λ t. cond t None (Some b)) h

  here_itself : (p : Object) → good p ≡ false → or_here good p None ≡ Some (placed [] p)
  here_itself p h = ap (λ t. cond t None (Some (placed [] p))) h

  -- by the subproofs
  pub by_subproofs : (p : Object) → first_bad good p ≡ or_here good p (first_bad_among good 1 (third_of p))
  by_subproofs (Natural n) = refl
  by_subproofs (Symbol s) = refl
  by_subproofs (Pair m (Natural n)) = refl
  by_subproofs (Pair m (Symbol s)) = refl
  by_subproofs (Pair m (Pair c (Natural n))) = refl
  by_subproofs (Pair m (Pair c (Symbol s))) = refl
  by_subproofs (Pair m (Pair c (Pair ps x))) = refl

  pub none_in_good : (p : Object) → good p ≡ true → first_bad good p ≡ None
  none_in_good p h = by_subproofs p ∙ here_none p (first_bad_among good 1 (third_of p)) h

  good_where_none : (p : Object) → first_bad good p ≡ None → good p ≡ true
  good_where_none p h = go (good p) refl (sym (by_subproofs p) ∙ h)
    where
      go : (t : Bool) → good p ≡ t → or_here good p (first_bad_among good 1 (third_of p)) ≡ None → good p ≡ true
      go true e k = e
      go false e k = some_is (first_bad_among good 1 (third_of p)) (sym (ap (λ t. cond t None (option_or (first_bad_among good 1 (third_of p)) (Some (placed [] p)))) e) ∙ k)
        where
          some_is : (o : Option Placed) → option_or o (Some (placed [] p)) ≡ None → good p ≡ true
          some_is None j = cc
          some_is (Some b) j = cc

  none_among : (k : ℕ) (ps : Object) → is_pair ps ≡ false → first_bad_among good k ps ≡ None
  none_among k (Natural n) h = refl
  none_among k (Symbol s) h = refl
  none_among k (Pair p ps) h = cc

  -- what is left to look at
  module _ (os : List Object) where
    abbrev Walking : List Open → Type 0
    Walking ws = Walks good os ws

    -- the last one goes on, perhaps with another one open in it
    goes_on : (ws : List Open) (w v : Open) (more : List Open) → v.proof ≡ w.proof → Walking (ws ++ w ∷ []) → Walking (v ∷ more) → Walking (ws ++ v ∷ more)
    goes_on [] w v more e h k = k
    goes_on (u ∷ []) w v more e h k = (subst (λ p. first_bad_among good 1 (third_of (object_at os u.proof)) ≡ option_or (in_subproof u.number (first_bad good (object_at os p))) (first_bad_among good (suc u.number) (part_at os u.left))) (sym e) h.0, k)
    goes_on (u ∷ x ∷ ws) w v more e h k = (h.0, goes_on (x ∷ ws) w v more e h.1 k)

    last_reaches : (ws : List Open) (w : Open) → Walking (ws ++ w ∷ []) → Reaches good os w []
    last_reaches [] w h = h.0
    last_reaches (u ∷ ws) w h = last_reaches ws w h.1

    -- the last one is good
    goes_back : (ws : List Open) (w : Open) → good (object_at os w.proof) ≡ true → Walking (ws ++ w ∷ []) → Walking ws
    goes_back [] w g h = tt
    goes_back (u ∷ []) w g h = (h.0 ∙ ap (λ o. option_or (in_subproof u.number o) (first_bad_among good (suc u.number) (part_at os u.left))) (none_in_good (object_at os w.proof) g), tt)
    goes_back (u ∷ x ∷ ws) w g h = (h.0, goes_back (x ∷ ws) w g h.1)

option_or-none : {X : Type 0} (x y : Option X) → option_or x y ≡ None → (x ≡ None) × (y ≡ None)
option_or-none None y h = (refl, h)
option_or-none (Some x) y h = cc

option_or-both : {X : Type 0} (x y : Option X) → x ≡ None → y ≡ None → option_or x y ≡ None
option_or-both None y h k = k
option_or-both (Some x) y h k = cc

in_subproof-none : (k : ℕ) (o : Option Placed) → in_subproof k o ≡ None → o ≡ None
in_subproof-none k None h = refl
in_subproof-none k (Some c) h = cc

module _ (b : Basis) where
  abbrev good : Object → Bool
  good p = is_proof_on b p

  -- the subproofs of a proof
  none_of_proofs : (k : ℕ) (ps : Object) → are_proofs_on b ps ≡ true → first_bad_among good k ps ≡ None
  none_of_proofs k (Natural n) h = refl
  none_of_proofs k (Symbol s) h = refl
  none_of_proofs k (Pair p ps) h =
      let both = and_parts (good p) (are_proofs_on b ps) h in
      option_or-both (in_subproof k (first_bad good p)) (first_bad_among good (suc k) ps) (ap (in_subproof k) (none_in_good good p both.0)) (none_of_proofs (suc k) ps both.1)

  proofs_where_none : (k : ℕ) (ps : Object) → have_conclusions b.table ps ≡ true → first_bad_among good k ps ≡ None → are_proofs_on b ps ≡ true
  proofs_where_none k (Natural n) c h = c
  proofs_where_none k (Symbol s) c h = c
  proofs_where_none k (Pair p ps) c h =
      let none = option_or-none (in_subproof k (first_bad good p)) (first_bad_among good (suc k) ps) h in
      and_from (good p) (are_proofs_on b ps) (good_where_none good p (in_subproof-none k (first_bad good p) none.0)) (proofs_where_none (suc k) ps (and_parts _ (have_conclusions b.table ps) c).1 none.1)

  -- a proof with a bad subproof is bad
  bad_above : (p : Object) (c : Placed) → first_bad_among good 1 (third_of p) ≡ Some c → good p ≡ false
  bad_above p c h = go (good p) refl
    where
      go : (t : Bool) → good p ≡ t → t ≡ false
      go true e = let k : None ≡ Some c = sym (none_of_proofs 1 (third_of p) (subproofs_hold b p e)) ∙ h in cc
      go false e = refl

  module _ (os : List Object) where
    abbrev at : Open → Object
    at w = object_at os w.proof

    -- nothing is left, and all that must hold of the last one holds, or not
    all_good : (w : Open) → is_pair (part_at os w.left) ≡ false → Reaches good os w [] → is_step_on b (at w) ≡ true → good (at w) ≡ true
    all_good w n h s = proof_by_step b (at w) s (proofs_where_none 1 (third_of (at w)) (step_concludes b (at w) s) (h ∙ none_among good (suc w.number) (part_at os w.left) n))

    last_bad : (w : Open) → is_pair (part_at os w.left) ≡ false → Reaches good os w [] → is_step_on b (at w) ≡ false → first_bad good (at w) ≡ Some (placed [] (at w))
    last_bad w n h s = by_subproofs good (at w) ∙ (ap (or_here good (at w)) (h ∙ none_among good (suc w.number) (part_at os w.left) n) ∙ here_itself good (at w) (go (good (at w)) refl))
      where
        go : (t : Bool) → good (at w) ≡ t → t ≡ false
        go true e = let k : true ≡ false = sym (proof_holds b (at w) e) ∙ s in cc
        go false e = refl

    -- then it is the first bad step of each that is open
    abbrev first_of : Open → List Open → Open
    first_of w [] = w
    first_of w (u ∷ us) = u

    above : (u : Open) (o rest : Option Placed) (ks : List ℕ) (q : Object) → first_bad_among good 1 (third_of (at u)) ≡ option_or (in_subproof u.number o) rest → o ≡ Some (placed ks q) → first_bad good (at u) ≡ Some (placed (u.number ∷ ks) q)
    above u o rest ks q e k =
        let found = placed (u.number ∷ ks) q in
        let i : first_bad_among good 1 (third_of (at u)) ≡ Some found = e ∙ ap (λ z. option_or (in_subproof u.number z) rest) k in
        by_subproofs good (at u) ∙ (ap (or_here good (at u)) i ∙ here_some good (at u) found (bad_above (at u) found i))

    found_above : (ws : List Open) (w : Open) → Walks good os (ws ++ w ∷ []) → first_bad good (at w) ≡ Some (placed [] (at w)) → first_bad good (at (first_of w ws)) ≡ Some (placed (map number_of ws) (at w))
    found_above [] w h k = k
    found_above (u ∷ []) w h k = above u (first_bad good (at w)) (first_bad_among good (suc u.number) (part_at os u.left)) [] (at w) h.0 k
    found_above (u ∷ v ∷ ws) w h k = above u (first_bad good (at v)) (first_bad_among good (suc u.number) (part_at os u.left)) (map number_of (v ∷ ws)) (at w) h.0 (found_above (v ∷ ws) w h.1 k)

    -- ---- what is kept

    begins_at : (root : ℕ) (ws : List Open) (w : Open) → Begins good os root (ws ++ w ∷ []) → (first_of w ws).proof ≡ root
    begins_at root [] w h = h
    begins_at root (u ∷ ws) w h = h

    still_begins : (root : ℕ) (ws : List Open) (w v : Open) (more : List Open) → v.proof ≡ w.proof → Begins good os root (ws ++ w ∷ []) → Begins good os root (ws ++ v ∷ more)
    still_begins root [] w v more e h = e ∙ h
    still_begins root (u ∷ ws) w v more e h = h

    begins_back : (root : ℕ) (ws : List Open) (w : Open) → good (at w) ≡ true → Begins good os root (ws ++ w ∷ []) → Begins good os root ws
    begins_back root [] w g h = subst (λ r. good (object_at os r) ≡ true) h g
    begins_back root (u ∷ ws) w g h = h

    pub looking_starts : (root : ℕ) (w : Open) (known : List ℕ) → known ≡ [] → IsUnopened os root w → IsLooking b os root known (w ∷ [])
    looking_starts root w known e u = record {
      known = λ q h. let k : list_any (nat_eq q) [] ≡ true = subst (λ z. list_any (nat_eq q) z ≡ true) e h in cc;
      walks = (starts w root u.0 u.1 u.4, tt);
      begins = u.0;
    }
      where
        starts : (v : Open) (x : ℕ) → v.proof ≡ x → part_at os v.left ≡ third_of (object_at os x) → v.number ≡ 0 → Reaches good os v []
        starts v x p l n = ap (λ z. first_bad_among good 1 (third_of (object_at os z))) p ∙ (ap (first_bad_among good 1) (sym l) ∙ ap (λ k. first_bad_among good (suc k) (part_at os v.left)) (sym n))

    pub looking_goes_on : (root : ℕ) (known : List ℕ) (ws new : List Open) (w : Open) → IsLooking b os root known (ws ++ w ∷ []) → Opens os w known ws new → IsLooking b os root known new
    looking_goes_on root known ws new w l o = by_cases o.opened
      where
        r : Reaches good os w []
        r = last_reaches good os ws w l.walks

        rest : Option Placed
        rest = first_bad_among good (suc (suc w.number)) (object_at os o.more)

        reached : first_bad_among good 1 (third_of (at w)) ≡ option_or (in_subproof (suc w.number) (first_bad good (object_at os o.p))) rest
        reached = r ∙ (ap (λ z. first_bad_among good (suc w.number) (part_at os z)) o.next.left ∙ ap (first_bad_among good (suc w.number)) o.next.pair)

        at_v : (z : Option Placed) → option_or (in_subproof (suc w.number) z) rest ≡ option_or (in_subproof o.v.number z) (first_bad_among good (suc o.v.number) (part_at os o.v.left))
        at_v z = ap (λ n. option_or (in_subproof n z) (first_bad_among good (suc n) (object_at os o.more))) (sym o.v_number) ∙ ap (λ x. option_or (in_subproof o.v.number z) (first_bad_among good (suc o.v.number) (part_at os x))) (sym o.v_left)

        same : first_bad_among good 1 (third_of (at o.v)) ≡ first_bad_among good 1 (third_of (at w))
        same = ap (λ z. first_bad_among good 1 (third_of (object_at os z))) o.v_proof

        by_cases : ((list_any (nat_eq o.p) known ≡ true) × (new ≡ ws ++ o.v ∷ [])) ⊎ ((u : Open) × IsUnopened os o.p u × (new ≡ (ws ++ o.v ∷ []) ++ u ∷ [])) → IsLooking b os root known new
        by_cases (inl k) =
            let none : first_bad good (object_at os o.p) ≡ None = none_in_good good (object_at os o.p) (l.known o.p k.0) in
            let reaches : Reaches good os o.v [] = same ∙ (reached ∙ (at_v (first_bad good (object_at os o.p)) ∙ ap (λ z. option_or (in_subproof o.v.number z) (first_bad_among good (suc o.v.number) (part_at os o.v.left))) none)) in
            record {
              known = l.known;
              walks = subst (Walks good os) (sym k.1) (goes_on good os ws w o.v [] o.v_proof l.walks (reaches, tt));
              begins = subst (Begins good os root) (sym k.1) (still_begins root ws w o.v [] o.v_proof l.begins);
            }
        by_cases (inr k) =
            let u = k.0 in
            let is_u : at u ≡ object_at os o.p = ap (object_at os) k.1.0 in
            let inner : Reaches good os u [] = ap (λ z. first_bad_among good 1 (third_of z)) is_u ∙ (ap (first_bad_among good 1) (sym k.1.1) ∙ ap (λ n. first_bad_among good (suc n) (part_at os u.left)) (sym k.1.4)) in
            let outer : Reaches good os o.v (u ∷ []) = same ∙ (reached ∙ (at_v (first_bad good (object_at os o.p)) ∙ ap (λ z. option_or (in_subproof o.v.number (first_bad good z)) (first_bad_among good (suc o.v.number) (part_at os o.v.left))) (sym is_u))) in
            let is : new ≡ ws ++ o.v ∷ u ∷ [] = k.2 ∙ append_assoc ws (o.v ∷ []) (u ∷ []) in
            record {
              known = l.known;
              walks = subst (Walks good os) (sym is) (goes_on good os ws w o.v (u ∷ []) o.v_proof l.walks (outer, (inner, tt)));
              begins = subst (Begins good os root) (sym is) (still_begins root ws w o.v (u ∷ []) o.v_proof l.begins);
            }

    pub looking_goes_back : (root : ℕ) (known more : List ℕ) (ws : List Open) (w : Open) → IsLooking b os root known (ws ++ w ∷ []) → is_pair (part_at os w.left) ≡ false → is_step_on b (at w) ≡ true → ((q : ℕ) → list_any (nat_eq q) more ≡ true → (list_any (nat_eq q) known ≡ true) ⊎ (q ≡ w.proof)) → IsLooking b os root more ws
    looking_goes_back root known more ws w l n s f =
        let g = all_good w n (last_reaches good os ws w l.walks) s in
        record {
          known = λ q h. elim (f q h) as (λ o. good (object_at os q) ≡ true) [ inl k ↦ l.known q k | inr e ↦ subst (λ x. good (object_at os x) ≡ true) (sym e) g ];
          walks = goes_back good os ws w g l.walks;
          begins = begins_back root ws w g l.begins;
        }

    pub looking_ends : (root : ℕ) (known : List ℕ) (ws : List Open) (w : Open) → IsLooking b os root known (ws ++ w ∷ []) → is_pair (part_at os w.left) ≡ false → is_step_on b (at w) ≡ false → first_bad good (object_at os root) ≡ Some (placed (map number_of ws) (at w))
    looking_ends root known ws w l n s =
        ap (λ r. first_bad good (object_at os r)) (sym (begins_at root ws w l.begins)) ∙ found_above ws w l.walks (last_bad w n (last_reaches good os ws w l.walks) s)

    pub nothing_bad : (root : ℕ) (known : List ℕ) → IsLooking b os root known [] → first_bad good (object_at os root) ≡ None
    nothing_bad root known l = none_in_good good (object_at os root) l.begins

-- where a reference came to those that are known
pub known_or_new : (known more : List ℕ) (x : ℕ) → ((q : ℕ) → list_any (λ y. q == y) more ≡ cond (x == q) true (list_any (λ y. q == y) known)) → (q : ℕ) → list_any (nat_eq q) more ≡ true → (list_any (nat_eq q) known ≡ true) ⊎ (q ≡ x)
known_or_new known more x says q h = go (x == q) refl (sym (says q) ∙ h)
  where
    go : (t : Bool) → (x == q) ≡ t → cond (x == q) true (list_any (λ y. q == y) known) ≡ true → (list_any (nat_eq q) known ≡ true) ⊎ (q ≡ x)
    go true e k = inr (sym (eqb-true x q e))
    go false e k = inl (sym (ap (λ t. cond t true (list_any (λ y. q == y) known)) e) ∙ k)

pub nothing_left : (waiting rest : List Open) → waiting ≡ rest ++ [] → length rest ≡ 0 → waiting ≡ []
nothing_left waiting [] e l = e
nothing_left waiting (i ∷ is) e l = absurd (omega arith)

pub IfOk-more : {X E : Type 0} (r : Result X E) (P Q : X → Type 0) → ((x : X) → P x → Q x) → IfOk r P → IfOk r Q
IfOk-more (Ok x) P Q f h = f x h
IfOk-more (Err e) P Q f h = h
