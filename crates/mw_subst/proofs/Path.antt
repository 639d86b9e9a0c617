-- The parts that wait for one another on the path of a substitution, and what was made so far.
use Rattle.std.proofs.Common.{◌≡◌, ℕ, zero, suc, ◌+◌, ◌*◌, ◌-◌, ◌<◌, ◌≤◌, Bool, true, false, cond, nat_eq, List, [], ◌∷◌, ◌++◌, length, slice_get, Some, None, ◌||◌, ◌⊎◌, inl, inr, refl, sym, ap, ap₂, ◌∙◌, subst, eqb-true, length-append, suc-mul, arith}
use Rattle.std.specs.Map.{lookup, keys_of}
use Rattle.std.specs.List.{IsDistinct, list_any}
use Rattle.std.proofs.lemmas.Option.{slice_get_within}
use Rattle.std.proofs.lemmas.Map.Entries.{length-keys_of}
use Rattle.std.proofs.lemmas.Map.Steps.{length-le_from_distinct_below}
use Rattle.mw_model.specs.Terms.Object.{Object}
use Rattle.mw_model.specs.Laws.Rules.{substitute_object, substitute_each_object}
use Rattle.mw_model.proofs.ReadBack.{some_one}
use Rattle.mw_heap.specs.Objects.{object_at, IsIn, Grows}
use Rattle.mw_heap.proofs.Lists.{slice_get-append, slice_get-seam, slice_get-push}
use Rattle.mw_heap.proofs.Objects.{object_at-Grows, IsIn-Grows, Grows-refl, Grows-trans}
use Rattle.mw_subst.specs.declared.part.Part.{Part}
use Rattle.mw_subst.specs.declared.part.Part.TheVariants.{Term, Terms}
use Rattle.mw_subst.specs.Sigma.{sigma_object, AreIn, term_or}
use Rattle.mw_subst.specs.Memo.{cell_of, IsPartIn, substituted, found, IsFound, AreResults, AreMade, AreUnique, Adds}
use Rattle.mw_subst.proofs.SigmaObject.{sigma_object-Grows, lookup-push}
use Rattle.mw_subst.proofs.Found.{found-added, none_unique}
use Rattle.mw_subst.proofs.Made.{results-push, results-Grows}

-- each entry is of an object below n
abbrev pub AreSmall : ℕ → List (ℕ × ℕ) → Type 0
AreSmall n [] = Unit {0}
AreSmall n (e ∷ es) = (e.0 < n) × AreSmall n es

small-push : (n k r : ℕ) (es : List (ℕ × ℕ)) → AreSmall n es → k < n → AreSmall n (es ++ (k, r) ∷ [])
small-push n k r [] h b = (b, tt)
small-push n k r (e ∷ es) h b = (h.0, small-push n k r es h.1 b)

keys_small : (n : ℕ) (es : List (ℕ × ℕ)) → AreSmall n es → (q : ℕ) → list_any (nat_eq q) (keys_of es) ≡ true → q < n
keys_small n [] h q e = cc
keys_small n (p ∷ es) h q e = go (nat_eq q p.0) refl e (keys_small n es h.1 q)
  where
    go : (b : Bool) → nat_eq q p.0 ≡ b → (b || list_any (nat_eq q) (keys_of es)) ≡ true → (list_any (nat_eq q) (keys_of es) ≡ true → q < n) → q < n
    go true t k rest = subst (λ z. z < n) (sym (eqb-true q p.0 t)) h.0
    go false t k rest = rest k

pub few : (n : ℕ) (es : List (ℕ × ℕ)) → AreSmall n es → IsDistinct nat_eq (keys_of es) → length es ≤ n
few n es h d = let l = length-le_from_distinct_below (keys_of es) n d (keys_small n es h) in omega (arith, l, length-keys_of es)

pub record IsPath (first now : List Object) (pairs : List (ℕ × ℕ)) (x : ℕ) (terms lists : List (ℕ × ℕ)) (path : List Part) : Type 0 where
  pub grows : Grows first now
  pub made : AreMade now (sigma_object now pairs) terms lists
  pub unique : AreUnique terms lists
  pub small : AreSmall (x + 1) terms × AreSmall (x + 1) lists
  pub falls : (i j : ℕ) (p q : Part) → i < j → slice_get path i ≡ Some p → slice_get path j ≡ Some q → cell_of q < cell_of p
  pub wanted : (i : ℕ) (p : Part) → slice_get path i ≡ Some p → found terms lists p ≡ None
  pub root : ((path ≡ []) × IsFound terms lists (Term x)) ⊎ (slice_get path 0 ≡ Some (Term x))

none_found_yet : (p : Part) → found [] [] p ≡ None
none_found_yet (Term x) = refl
none_found_yet (Terms x) = refl

-- at first the term itself waits
path-first : (os : List Object) (pairs : List (ℕ × ℕ)) (x : ℕ) → IsPath os os pairs x [] [] (Term x ∷ [])
path-first os pairs x = record {
  grows = Grows-refl os;
  made = (tt, tt);
  unique = none_unique;
  small = (tt, tt);
  falls = λ i j p q k at_i at_j. elim (slice_get-push [] (Term x) q j at_j) [ inl h ↦ absurd (omega (arith, h.0)) | inr h ↦ absurd (omega (arith, k, h.0)) ];
  wanted = λ i p at. none_found_yet p;
  root = inr refl;
}

pub path-starts : (os : List Object) (pairs : List (ℕ × ℕ)) (x : ℕ) (terms lists : List (ℕ × ℕ)) (path : List Part) → terms ≡ [] → lists ≡ [] → path ≡ Term x ∷ [] → IsPath os os pairs x terms lists path
path-starts os pairs x terms lists path t l p =
    subst (λ q. IsPath os os pairs x terms lists q) (sym p) (subst (λ m. IsPath os os pairs x terms m (Term x ∷ [])) (sym l) (subst (λ m. IsPath os os pairs x m [] (Term x ∷ [])) (sym t) (path-first os pairs x)))

-- the cell of the last part, and one
abbrev pub height : List Part → ℕ
height [] = 0
height (p ∷ []) = cell_of p + 1
height (p ∷ q ∷ ps) = height (q ∷ ps)

pub height-push : (ps : List Part) (p : Part) → height (ps ++ p ∷ []) ≡ cell_of p + 1
height-push [] p = refl
height-push (q ∷ []) p = refl
height-push (q ∷ r ∷ ps) p = height-push (r ∷ ps) p

height-bound : (x : ℕ) (ps : List Part) → ((i : ℕ) (p : Part) → slice_get ps i ≡ Some p → cell_of p ≤ x) → height ps ≤ x + 1
height-bound x [] h = omega arith
height-bound x (p ∷ []) h = let b = h 0 p refl in omega (arith, b)
height-bound x (p ∷ q ∷ ps) h = height-bound x (q ∷ ps) (λ i r at. h (suc i) r at)

-- what is left to do
abbrev pub left : ℕ → List (ℕ × ℕ) → List (ℕ × ℕ) → List Part → ℕ
left x terms lists path = (2 * (x + 1) - (length terms + length lists)) * (x + 2) + height path

-- all that is on a path is below its root
below_root : (path : List Part) (x i : ℕ) (p : Part) → ((i j : ℕ) (p q : Part) → i < j → slice_get path i ≡ Some p → slice_get path j ≡ Some q → cell_of q < cell_of p) → slice_get path 0 ≡ Some (Term x) → slice_get path i ≡ Some p → cell_of p ≤ x
below_root path x zero p falls root at = let e : p ≡ Term x = some_one (sym at ∙ root) in subst (λ q. cell_of q ≤ x) (sym e) (omega arith)
below_root path x (suc i) p falls root at = let h : cell_of p < x = falls 0 (suc i) (Term x) p (omega arith) root at in omega (arith, h)

not_empty : (ps : List Part) (p : Part) → ps ++ p ∷ [] ≡ [] → ⊥
not_empty ps p e = let l = ap length e in absurd (omega (arith, l, length-append ps (p ∷ [])))

-- a part that was not added is found as before
found-others : (terms lists more_terms more_lists : List (ℕ × ℕ)) (part p : Part) (r : ℕ) → Adds terms lists more_terms more_lists part r → nat_eq (cell_of p) (cell_of part) ≡ false → found terms lists p ≡ None → found more_terms more_lists p ≡ None
found-others terms lists mt ml (Term k) (Term q) r a e n = ap (lookup (nat_eq q)) a.0 ∙ (lookup-push terms k r q ∙ ap₂ (λ o b. term_or o (cond b (Some r) None)) n e)
found-others terms lists mt ml (Term k) (Terms q) r a e n = ap (lookup (nat_eq q)) a.1 ∙ n
found-others terms lists mt ml (Terms k) (Term q) r a e n = ap (lookup (nat_eq q)) a.0 ∙ n
found-others terms lists mt ml (Terms k) (Terms q) r a e n = ap (lookup (nat_eq q)) a.1 ∙ (lookup-push lists k r q ∙ ap₂ (λ o b. term_or o (cond b (Some r) None)) n e)

apart : (a b : ℕ) → b < a → nat_eq a b ≡ false
apart a b h = go (nat_eq a b) refl
  where
    go : (t : Bool) → nat_eq a b ≡ t → t ≡ false
    go true e = let k = eqb-true a b e in absurd (omega arith)
    go false e = refl

made-Grows : (old new : List Object) (pairs : List (ℕ × ℕ)) (terms lists : List (ℕ × ℕ)) → Grows old new → AreIn old pairs → AreMade old (sigma_object old pairs) terms lists → AreMade new (sigma_object new pairs) terms lists
made-Grows old new pairs terms lists g h m =
    subst (λ s. AreMade new s terms lists) (sym (sigma_object-Grows old new pairs g h)) (results-Grows old new (substitute_object (sigma_object old pairs)) terms g m.0, results-Grows old new (substitute_each_object (sigma_object old pairs)) lists g m.1)

made-added : (os : List Object) (s : Object) (terms lists more_terms more_lists : List (ℕ × ℕ)) (part : Part) (r : ℕ) → AreMade os s terms lists → Adds terms lists more_terms more_lists part r → IsPartIn os part → IsIn os r → object_at os r ≡ substituted s part (object_at os (cell_of part)) → AreMade os s more_terms more_lists
made-added os s terms lists mt ml (Term k) r m a in_k in_r e = (subst (AreResults os (substitute_object s)) (sym a.0) (results-push os (substitute_object s) k r terms m.0 in_k in_r e), subst (AreResults os (substitute_each_object s)) (sym a.1) m.1)
made-added os s terms lists mt ml (Terms k) r m a in_k in_r e = (subst (AreResults os (substitute_object s)) (sym a.0) m.0, subst (AreResults os (substitute_each_object s)) (sym a.1) (results-push os (substitute_each_object s) k r lists m.1 in_k in_r e))

pub small-added : (n : ℕ) (terms lists more_terms more_lists : List (ℕ × ℕ)) (part : Part) (r : ℕ) → AreSmall n terms × AreSmall n lists → Adds terms lists more_terms more_lists part r → cell_of part < n → AreSmall n more_terms × AreSmall n more_lists
small-added n terms lists mt ml (Term k) r h a b = (subst (AreSmall n) (sym a.0) (small-push n k r terms h.0 b), subst (AreSmall n) (sym a.1) h.1)
small-added n terms lists mt ml (Terms k) r h a b = (subst (AreSmall n) (sym a.0) h.0, subst (AreSmall n) (sym a.1) (small-push n k r lists h.1 b))

pub length-added : (terms lists more_terms more_lists : List (ℕ × ℕ)) (part : Part) (r : ℕ) → Adds terms lists more_terms more_lists part r → length more_terms + length more_lists ≡ (length terms + length lists) + 1
length-added terms lists mt ml (Term k) r a = omega (arith, ap length a.0, ap length a.1, length-append terms ((k, r) ∷ []))
length-added terms lists mt ml (Terms k) r a = omega (arith, ap length a.0, ap length a.1, length-append lists ((k, r) ∷ []))

module _ (first now new : List Object) (pairs : List (ℕ × ℕ)) (x : ℕ) (terms lists : List (ℕ × ℕ)) (rest : List Part) (part : Part) (path : IsPath first now pairs x terms lists (rest ++ part ∷ [])) (sigma : AreIn now pairs) where
  last_at : slice_get (rest ++ part ∷ []) (length rest) ≡ Some part
  last_at = slice_get-seam rest [] part

  root_at : slice_get (rest ++ part ∷ []) 0 ≡ Some (Term x)
  root_at = elim path.root [ inl e ↦ absurd (not_empty rest part e.0) | inr r ↦ r ]

  pub last_below : cell_of part ≤ x
  last_below = below_root (rest ++ part ∷ []) x (length rest) part path.falls root_at last_at

  pub last_wanted : found terms lists part ≡ None
  last_wanted = path.wanted (length rest) part last_at

  earlier : (i : ℕ) (p : Part) → slice_get rest i ≡ Some p → (slice_get (rest ++ part ∷ []) i ≡ Some p) × (cell_of part < cell_of p)
  earlier i p at =
      let b = slice_get_within rest i p at in
      let here : slice_get (rest ++ part ∷ []) i ≡ Some p = slice_get-append rest (part ∷ []) i b ∙ at in
      (here, path.falls i (length rest) p part b here last_at)

  -- no part on the path is below the last one
  pub above : (i : ℕ) (p : Part) → slice_get (rest ++ part ∷ []) i ≡ Some p → cell_of part ≤ cell_of p
  above i p at = elim (slice_get-push rest part p i at) [ inl h ↦ let e = (earlier i p h.1).1 in omega (arith, e) | inr h ↦ let e = ap cell_of h.1 in omega (arith, e) ]

  -- a smaller part is wanted first
  pub path-wants : (inner : Part) → Grows now new → cell_of inner < cell_of part → found terms lists inner ≡ None → IsPath first new pairs x terms lists ((rest ++ part ∷ []) ++ inner ∷ [])
  path-wants inner g less none = record {
    grows = Grows-trans first now new path.grows g;
    made = made-Grows now new pairs terms lists g sigma path.made;
    unique = path.unique;
    small = path.small;
    falls = λ i j p q k at_i at_j.
        elim (slice_get-push (rest ++ part ∷ []) inner q j at_j) [
          | inl h ↦ elim (slice_get-push (rest ++ part ∷ []) inner p i at_i) [ inl m ↦ path.falls i j p q k m.1 h.1 | inr m ↦ absurd (omega (arith, k, h.0, m.0)) ]
          | inr h ↦
              elim (slice_get-push (rest ++ part ∷ []) inner p i at_i) [
                | inl m ↦ let a = above i p m.1 in let e = ap cell_of h.1 in omega (arith, a, e, less)
                | inr m ↦ absurd (omega (arith, k, h.0, m.0))
              ]
        ];
    wanted = λ i p at. elim (slice_get-push (rest ++ part ∷ []) inner p i at) [ inl h ↦ path.wanted i p h.1 | inr h ↦ ap (found terms lists) (sym h.1) ∙ none ];
    root = inr (slice_get-append (rest ++ part ∷ []) (inner ∷ []) 0 (slice_get_within (rest ++ part ∷ []) 0 (Term x) root_at) ∙ root_at);
  }

  -- the part was made
  module _ (more_terms more_lists : List (ℕ × ℕ)) (r : ℕ) (adds : Adds terms lists more_terms more_lists part r) where
    root_after : (ps : List Part) → rest ≡ ps → ((ps ≡ []) × IsFound more_terms more_lists (Term x)) ⊎ (slice_get ps 0 ≡ Some (Term x))
    root_after [] e =
        let is : part ≡ Term x = some_one (sym (ap (λ l. slice_get (l ++ part ∷ []) 0) e) ∙ root_at) in
        inl (refl, found-added terms lists more_terms more_lists r (Term x) (subst (λ p. Adds terms lists more_terms more_lists p r) is adds))
    root_after (p ∷ ps) e = inr (sym (ap (λ l. slice_get (l ++ part ∷ []) 0) e) ∙ root_at)

    pub path-made : Grows now new → IsIn now (cell_of part) → IsIn new r → object_at new r ≡ substituted (sigma_object now pairs) part (object_at now (cell_of part)) → AreUnique more_terms more_lists → IsPath first new pairs x more_terms more_lists rest
    path-made g in_part in_r e u = record {
      grows = Grows-trans first now new path.grows g;
      made =
          made-added new (sigma_object new pairs) terms lists more_terms more_lists part r (made-Grows now new pairs terms lists g sigma path.made) adds (IsIn-Grows now new g (cell_of part) in_part) in_r
          (e ∙ ap₂ (λ s o. substituted s part o) (sym (sigma_object-Grows now new pairs g sigma)) (sym (object_at-Grows now new g (cell_of part) in_part)));
      unique = u;
      small = small-added (x + 1) terms lists more_terms more_lists part r path.small adds (omega (arith, last_below));
      falls = λ i j p q k at_i at_j. path.falls i j p q k (earlier i p at_i).0 (earlier j q at_j).0;
      wanted = λ i p at. let h = earlier i p at in found-others terms lists more_terms more_lists part p r adds (apart (cell_of p) (cell_of part) h.1) (path.wanted i p h.0);
      root = root_after rest refl;
    }

    -- one part less is left
    pub left-made : AreUnique more_terms more_lists → AreSmall (x + 1) more_terms × AreSmall (x + 1) more_lists → left x more_terms more_lists rest < left x terms lists (rest ++ part ∷ [])
    left-made u small =
        let t = few (x + 1) more_terms small.0 u.0 in
        let l = few (x + 1) more_lists small.1 u.1 in
        let n = length-added terms lists more_terms more_lists part r adds in
        let h = height-bound x rest (λ i p at. below_root (rest ++ part ∷ []) x i p path.falls root_at (earlier i p at).0) in
        let one : 2 * (x + 1) - (length terms + length lists) ≡ suc (2 * (x + 1) - (length more_terms + length more_lists)) = omega (arith, t, l, n) in
        let product = ap (λ k. k * (x + 2)) one ∙ suc-mul (2 * (x + 1) - (length more_terms + length more_lists)) (x + 2) in
        omega (arith, h, product)

  -- what waits is smaller
  pub left-wants : (inner : Part) → cell_of inner < cell_of part → left x terms lists ((rest ++ part ∷ []) ++ inner ∷ []) < left x terms lists (rest ++ part ∷ [])
  left-wants inner less = omega (arith, height-push (rest ++ part ∷ []) inner, height-push rest part)
