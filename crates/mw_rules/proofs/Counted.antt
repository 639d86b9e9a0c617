-- The set of known references is that of the list's members, also after one is added and after newer ones are cut.
use Rattle.std.proofs.Common.{◌≡◌, ℕ, zero, suc, ◌-◌, ◌==◌, ◌<◌, ◌≤◌, Bool, true, false, cond, ◌||◌, List, [], ◌∷◌, ◌++◌, length, map, reverse, take, drop, get_or, refl, sym, ap, ap₂, subst, ◌∙◌, ◌⊎◌, inl, inr, arith, length-append, length-drop, append-nil, get_or-take, if◌then◌else◌}
use Rattle.std.proofs.Math.ListN.{get_or-append}
use Rattle.std.proofs.Math.Seq.{get_or-append_seam, take-length, take-append_seam, drop-append_seam}
use Rattle.std.proofs.lemmas.Bool.{cases_lt, cases_eq, eq-eqb, ne_eqb}
use Rattle.std.proofs.lemmas.List.{take-take, take-append-le, length-take-le, map-append, take-append-drop, reverse-append, length-reverse, length-map, get_or_read}
use Rattle.std.proofs.lemmas.List.Folds.{list_any-append}
use Rattle.std.proofs.lemmas.List.Sorted.{list_any-IsPermutation, IsPermutation-reverse}
use Rattle.std.specs.List.{list_any}
use Rattle.mw_rules.specs.declared.known.Entry.{Entry}
use Rattle.mw_rules.specs.Known.{references, AreSame, no_entry, distinct_among, AreCounted}

pub eqb-swap : (a b : ℕ) → (a == b) ≡ (b == a)
eqb-swap a b = go (cases_eq a b)
  where
    go : (a ≡ b) ⊎ (a ≡ b → ⊥) → (a == b) ≡ (b == a)
    go (inl e) = eq-eqb a b e ∙ sym (eq-eqb b a (sym e))
    go (inr n) = ne_eqb a b n ∙ sym (ne_eqb b a (λ e. n (sym e)))

or-cond : (a b c : Bool) → b ≡ c → (a || (b || false)) ≡ cond c true a
or-cond true true c e = ap (λ d. cond d true true) e
or-cond true false c e = ap (λ d. cond d true true) e
or-cond false true c e = ap (λ d. cond d true false) e
or-cond false false c e = ap (λ d. cond d true false) e

references-any : (es : List Entry) (x : ℕ) → list_any (λ y. x == y) (references es) ≡ list_any (λ y. x == y) (map (λ e. e.reference) es)
references-any es x = sym (list_any-IsPermutation (λ y. x == y) (map (λ e. e.reference) es) (references es) (IsPermutation-reverse (map (λ e. e.reference) es)))

module _ (es : List Entry) (ks : List ℕ) (h : AreCounted es ks) where
  within : (n : ℕ) → n ≤ length es → distinct_among es n ≤ length ks
  within n l = let r : distinct_among es n ≤ distinct_among es (length es) = h.rising n (length es) l (omega arith) in let w = h.whole in omega arith

  all_same : AreSame es ks
  all_same x =
      let e : take (distinct_among es (length es)) ks ≡ ks = ap (λ n. take n ks) h.whole ∙ take-length ks in
      ap (λ l. list_any (λ y. x == y) (map (λ e. e.reference) l)) (sym (take-length es)) ∙ (h.same (length es) (omega arith) x ∙ ap (λ l. list_any (λ y. x == y) l) e)

  -- the set answers for the list
  pub known-any : (x : ℕ) → list_any (λ y. x == y) (references es) ≡ list_any (λ y. x == y) ks
  known-any x = references-any es x ∙ all_same x

  distinct_among-take : (n m : ℕ) → m ≤ n → distinct_among (take n es) m ≡ distinct_among es m
  distinct_among-take n zero l = refl
  distinct_among-take n (suc m) l = let k : m < n = omega arith in ap (λ e. e.distinct) (get_or-take n es m no_entry k)

  pub AreCounted-take : (n : ℕ) → n ≤ length es → AreCounted (take n es) (take (distinct_among es n) ks)
  AreCounted-take n l =
      let len : length (take n es) ≡ n = length-take-le n es l in
      record {
        whole = ap (distinct_among (take n es)) len ∙ (distinct_among-take n n (omega arith) ∙ sym (length-take-le (distinct_among es n) ks (within n l)));
        rising = λ i j k m. let m' : j ≤ n = omega (arith, len) in subst (λ a. a ≤ distinct_among (take n es) j) (sym (distinct_among-take n i (omega arith))) (subst (λ a. distinct_among es i ≤ a) (sym (distinct_among-take n j m')) (h.rising i j k (omega arith)));
        same = λ i k x. let k' : i ≤ n = omega (arith, len) in
            ap (λ a. list_any (λ y. x == y) (map (λ e. e.reference) a)) (take-take i n es k')
            ∙ (h.same i (omega arith) x
            ∙ ap (λ a. list_any (λ y. x == y) a) (sym (ap (λ d. take d (take (distinct_among es n) ks)) (distinct_among-take n i k') ∙ take-take (distinct_among es i) (distinct_among es n) ks (h.rising i n k' l))));
      }

  -- one more, whose keys are the old ones and maybe it
  module _ (e : Entry) (more : List ℕ) (counts : e.distinct ≡ length (ks ++ more)) (says : (x : ℕ) → list_any (λ y. x == y) (ks ++ more) ≡ cond (e.reference == x) true (list_any (λ y. x == y) ks)) where
    distinct_among-push : (m : ℕ) → m ≤ length es → distinct_among (es ++ e ∷ []) m ≡ distinct_among es m
    distinct_among-push zero l = refl
    distinct_among-push (suc m) l = ap (λ d. d.distinct) (get_or-append es (e ∷ []) no_entry m (omega arith))

    distinct_among-last : distinct_among (es ++ e ∷ []) (suc (length es)) ≡ length (ks ++ more)
    distinct_among-last = ap (λ (d : Entry). d.distinct) (get_or-append_seam es e [] no_entry) ∙ counts

    len : length (es ++ e ∷ []) ≡ suc (length es)
    len = omega (arith, length-append es (e ∷ []))

    split : (n : ℕ) → n ≤ suc (length es) → (n ≤ length es) ⊎ (n ≡ suc (length es))
    split n l = elim (cases_lt (length es) n) [ inl k ↦ inr (omega arith) | inr k ↦ inl k ]

    below : (m : ℕ) → m ≤ suc (length es) → distinct_among (es ++ e ∷ []) m ≤ length (ks ++ more)
    below m l = go (split m l)
      where
        go : (m ≤ length es) ⊎ (m ≡ suc (length es)) → distinct_among (es ++ e ∷ []) m ≤ length (ks ++ more)
        go (inl k) = omega (arith, distinct_among-push m k, within m k, length-append ks more)
        go (inr k) = let q : distinct_among (es ++ e ∷ []) m ≡ length (ks ++ more) = ap (distinct_among (es ++ e ∷ [])) k ∙ distinct_among-last in omega arith

    rising_push : (m n : ℕ) → m ≤ n → n ≤ suc (length es) → distinct_among (es ++ e ∷ []) m ≤ distinct_among (es ++ e ∷ []) n
    rising_push m n k l = go (split n l)
      where
        go : (n ≤ length es) ⊎ (n ≡ suc (length es)) → distinct_among (es ++ e ∷ []) m ≤ distinct_among (es ++ e ∷ []) n
        go (inl i) = let j : m ≤ length es = omega arith in omega (arith, distinct_among-push m j, distinct_among-push n i, h.rising m n k i)
        go (inr i) = let q : distinct_among (es ++ e ∷ []) n ≡ length (ks ++ more) = ap (distinct_among (es ++ e ∷ [])) i ∙ distinct_among-last in omega (arith, below m (omega arith))

    all_push : AreSame (es ++ e ∷ []) (ks ++ more)
    all_push x =
        ap (list_any (λ y. x == y)) (map-append (λ d. d.reference) es (e ∷ []))
        ∙ (list_any-append (λ y. x == y) (map (λ d. d.reference) es) (e.reference ∷ [])
        ∙ (or-cond (list_any (λ y. x == y) (map (λ d. d.reference) es)) (x == e.reference) (e.reference == x) (eqb-swap x e.reference)
        ∙ (ap (cond (e.reference == x) true) (all_same x) ∙ sym (says x))))

    same_push : (n : ℕ) → n ≤ suc (length es) → AreSame (take n (es ++ e ∷ [])) (take (distinct_among (es ++ e ∷ []) n) (ks ++ more))
    same_push n l = go (split n l)
      where
        go : (n ≤ length es) ⊎ (n ≡ suc (length es)) → AreSame (take n (es ++ e ∷ [])) (take (distinct_among (es ++ e ∷ []) n) (ks ++ more))
        go (inl k) x =
            ap (λ a. list_any (λ y. x == y) (map (λ d. d.reference) a)) (take-append-le n es (e ∷ []) k)
            ∙ (h.same n k x
            ∙ ap (list_any (λ y. x == y)) (sym (ap (λ d. take d (ks ++ more)) (distinct_among-push n k) ∙ take-append-le (distinct_among es n) ks more (within n k))))
        go (inr k) x =
            ap (λ a. list_any (λ y. x == y) (map (λ d. d.reference) a)) (ap (λ a. take a (es ++ e ∷ [])) (k ∙ sym len) ∙ take-length (es ++ e ∷ []))
            ∙ (all_push x
            ∙ ap (list_any (λ y. x == y)) (sym (ap (λ d. take d (ks ++ more)) (ap (distinct_among (es ++ e ∷ [])) k ∙ distinct_among-last) ∙ take-length (ks ++ more))))

    pub AreCounted-push : AreCounted (es ++ e ∷ []) (ks ++ more)
    AreCounted-push = record {
      whole = ap (distinct_among (es ++ e ∷ [])) len ∙ distinct_among-last;
      rising = λ m n k l. rising_push m n k (omega (arith, len));
      same = λ n l. same_push n (omega (arith, len));
    }

-- what an insertion into the set leaves
pub if-true : {X : Type 0} (b : Bool) (x y z : X) → z ≡ (if b then x else y) → b ≡ true → z ≡ x
if-true true x y z e h = e
if-true false x y z e h = cc

pub if-false : {X : Type 0} (b : Bool) (x y z : X) → z ≡ (if b then x else y) → b ≡ false → z ≡ y
if-false true x y z e h = cc
if-false false x y z e h = e

pub keys_more : (b : Bool) (ks : List ℕ) (x : ℕ) → (more : List ℕ) × ((if b then ks else ks ++ x ∷ []) ≡ ks ++ more)
keys_more true ks x = ([], sym (append-nil ks))
keys_more false ks x = (x ∷ [], refl)

pub keys-before : (b : Bool) (ks new : List ℕ) (x n : ℕ) → new ≡ (if b then ks else ks ++ x ∷ []) → n ≡ length ks → take n new ≡ ks
keys-before b ks new x n e l = let m = keys_more b ks x in ap₂ take l (e ∙ m.1) ∙ take-append_seam ks m.0

pub AreCounted-added : (es : List Entry) (ks new : List ℕ) (b : Bool) (x n : ℕ) → AreCounted es ks → new ≡ (if b then ks else ks ++ x ∷ []) → n ≡ length new → ((y : ℕ) → list_any (λ z. y == z) new ≡ cond (x == y) true (list_any (λ z. y == z) ks)) → AreCounted (es ++ record { reference = x; distinct = n } ∷ []) new
AreCounted-added es ks new b x n h e l says =
    let m = keys_more b ks x in
    let q : new ≡ ks ++ m.0 = e ∙ m.1 in
    subst (AreCounted (es ++ record { reference = x; distinct = n } ∷ [])) (sym q)
    (AreCounted-push es ks h (record { reference = x; distinct = n }) m.0 (l ∙ ap length q) (λ y. ap (list_any (λ z. y == z)) (sym q) ∙ says y))

-- what the last of n entries counts
pub distinct_among-at : (es : List Entry) (n : ℕ) (e : Entry) → 0 < n → n ≤ length es → e ≡ get_or es (n - 1) e → e.distinct ≡ distinct_among es n
distinct_among-at es zero e h l r = absurd (omega arith)
distinct_among-at es (suc m) e h l r =
    let q : suc m - 1 ≡ m = omega arith in
    ap (λ (d : Entry). d.distinct) (get_or_read es m e (omega arith) (r ∙ ap (λ i. get_or es i e) q) no_entry)

pub references-length : (es : List Entry) → length (references es) ≡ length es
references-length es = length-reverse (map (λ e. e.reference) es) ∙ length-map es (λ e. e.reference)

-- the members that stay when newer ones are cut
pub references-take : (es : List Entry) (n : ℕ) → n ≤ length es → references (take n es) ≡ drop (length (references es) - n) (references es)
references-take es n l =
    let newer = reverse (map (λ e. e.reference) (drop n es)) in
    let older = references (take n es) in
    let all : references es ≡ newer ++ older = ap references (sym (take-append-drop n es)) ∙ (ap reverse (map-append (λ e. e.reference) (take n es) (drop n es)) ∙ reverse-append (map (λ e. e.reference) (take n es)) (map (λ e. e.reference) (drop n es))) in
    let count : length newer ≡ length (references es) - n = references-length (drop n es) ∙ (length-drop n es ∙ ap (λ k. k - n) (sym (references-length es))) in
    sym (ap (drop (length (references es) - n)) all ∙ (ap (λ k. drop k (newer ++ older)) (sym count) ∙ drop-append_seam newer older))
