-- A walk over a part of an event: what the part asks for was noted, or is asked for by what waits.
use Rattle.std.proofs.Common.{◌≡◌, ℕ, zero, suc, ◌+◌, ◌<◌, ◌≤◌, Bool, true, false, ◌||◌, cond, List, [], ◌∷◌, ◌++◌, length, Contains, ◌⊎◌, inl, inr, refl, sym, ap, ◌∙◌, subst, eqb, arith, eqb-true, eq-eqb}
use Rattle.std.proofs.lemmas.Bool.{or_cases, or_left, or_right}
use Rattle.std.proofs.lemmas.List.Elements.{Contains-push, Contains-push_cases, Contains-append_left, Contains-append_right, Contains-append_cases}
use Rattle.mw_model.specs.Terms.Object.{Object}
use Rattle.mw_heap.specs.Objects.{IsIn}
use Rattle.mw_slice.specs.declared.basis.Basis.{Basis}
use Rattle.mw_slice.specs.declared.part.Part.{Part}
use Rattle.mw_slice.specs.declared.part.Part.TheVariants.{Cell, Proof, Proofs}
use Rattle.mw_slice.specs.Parts.{cell_of, same_part}
use Rattle.mw_slice.specs.Supports.{Support, has, notes, asks, asks_itself, IsInside, IsSame, IsBasis}
use Rattle.mw_slice.specs.Walks.{IsEntered, IsMet, Meets}
use Rattle.mw_slice.proofs.Entering.{none_in, one_in, itself_asks}

-- ---- a walk ends: a part weighs more than two smaller ones

abbrev load : ℕ → ℕ
load zero = 1
load (suc n) = 1 + (load n + load n)

load-mono : (a b : ℕ) → a ≤ b → load a ≤ load b
load-mono a zero h = let e : a ≡ zero = omega arith in subst (λ z. load z ≤ load zero) (sym e) (omega arith)
load-mono a (suc b) h = go (eqb a (suc b)) refl (load-mono a b)
  where
    go : (t : Bool) → eqb a (suc b) ≡ t → (a ≤ b → load a ≤ load b) → load a ≤ load (suc b)
    go true e ih = let k = ap load (eqb-true a (suc b) e) in omega (arith, k)
    go false e ih =
        let l : a ≤ b = less e in
        let k = ih l in
        omega (arith, k)
      where
        less : eqb a (suc b) ≡ false → a ≤ b
        less f = grind (arith, eq-eqb a (suc b))

two_loads : (a b p : ℕ) → a < p → b < p → load a + load b < load p
two_loads a b zero h k = absurd (omega arith)
two_loads a b (suc p) h k =
    let l : a ≤ p = omega arith in
    let m : b ≤ p = omega arith in
    omega (arith, load-mono a p l, load-mono b p m)

some_load : (p : ℕ) → 0 < load p
some_load zero = omega arith
some_load (suc p) = omega arith

abbrev pub waiting_load : List Part → ℕ
waiting_load [] = 0
waiting_load (p ∷ ps) = load (cell_of p) + waiting_load ps

waiting_load-append : (ps qs : List Part) → waiting_load (ps ++ qs) ≡ waiting_load ps + waiting_load qs
waiting_load-append [] qs = omega arith
waiting_load-append (p ∷ ps) qs = omega (arith, waiting_load-append ps qs)

lighter : (part : Part) (more : List Part) → length more ≤ 2 → ((q : Part) → Contains more q → cell_of q < cell_of part) → waiting_load more < load (cell_of part)
lighter part [] few older = some_load (cell_of part)
lighter part (q ∷ []) few older =
    let l = two_loads (cell_of q) (cell_of q) (cell_of part) (older q (0, omega arith, refl)) (older q (0, omega arith, refl)) in
    omega (arith, l)
lighter part (q ∷ (r ∷ [])) few older =
    let l = two_loads (cell_of q) (cell_of r) (cell_of part) (older q (0, omega arith, refl)) (older r (1, omega arith, refl)) in
    omega (arith, l)
lighter part (q ∷ (r ∷ (s ∷ ps))) few older = absurd (omega arith)

pub walk_falls : (os : List Object) (firsts : List (ℕ × ℕ)) (part : Part) (old new : Basis) (rest waiting was : List Part) → was ≡ rest ++ part ∷ [] → Meets os firsts part old new rest waiting → waiting_load waiting < waiting_load was
walk_falls os firsts part old new rest waiting was e m =
    let had = ap waiting_load e ∙ waiting_load-append rest (part ∷ []) in
    elim m [
      | inl s ↦ let same = ap waiting_load s.2 in omega (arith, had, same, some_load (cell_of part))
      | inr n ↦
          let more = n.entered in
          let has = ap waiting_load more.longer ∙ waiting_load-append rest more.more in
          omega (arith, had, has, lighter part more.more more.few more.older)
    ]

-- ---- one step

same_part-eq : (p q : Part) → same_part p q ≡ true → p ≡ q
same_part-eq (Cell x) (Cell y) h = ap Cell (eqb-true x y h)
same_part-eq (Proof x) (Proof y) h = ap Proof (eqb-true x y h)
same_part-eq (Proofs x) (Proofs y) h = ap Proofs (eqb-true x y h)
same_part-eq (Cell x) (Proof y) h = cc
same_part-eq (Cell x) (Proofs y) h = cc
same_part-eq (Proof x) (Cell y) h = cc
same_part-eq (Proof x) (Proofs y) h = cc
same_part-eq (Proofs x) (Cell y) h = cc
same_part-eq (Proofs x) (Proof y) h = cc

same_part-itself : (p : Part) → same_part p p ≡ true
same_part-itself (Cell x) = eq-eqb x x refl
same_part-itself (Proof x) = eq-eqb x x refl
same_part-itself (Proofs x) = eq-eqb x x refl

both_ways : (a b : Bool) → (a ≡ true → b ≡ true) → (b ≡ true → a ≡ true) → a ≡ b
both_ways true b f g = sym (f refl)
both_ways false true f g = g refl
both_ways false false f g = refl

module _ (os : List Object) (firsts : List (ℕ × ℕ)) (root : Part) (old : Basis) where
  pub record IsWalking (new : Basis) (waiting : List Part) : Type 0 where
    pub inside : IsInside os new
    pub waiting_inside : (q : Part) → Contains waiting q → IsIn os (cell_of q)
    pub keeps : (s : Support) → notes os old s ≡ true → notes os new s ≡ true
    pub sound : (s : Support) → notes os new s ≡ true → (notes os old s ≡ true) ⊎ (asks os firsts s root ≡ true)
    pub part_of : (s : Support) (q : Part) → Contains waiting q → asks os firsts s q ≡ true → asks os firsts s root ≡ true
    pub closed : (s : Support) (p : Part) → has new p ≡ true → asks os firsts s p ≡ true → (notes os new s ≡ true) ⊎ ((q : Part) × (cell_of q < cell_of p) × (asks os firsts s q ≡ true) × ((has new q ≡ true) ⊎ Contains waiting q))
    pub root_met : (has new root ≡ true) ⊎ Contains waiting root

  pub walk_starts : (waiting : List Part) → IsIn os (cell_of root) → IsBasis os firsts old → waiting ≡ root ∷ [] → IsWalking old waiting
  walk_starts waiting within basis e = record {
    inside = basis.inside;
    waiting_inside = λ q m. subst (λ p. IsIn os (cell_of p)) (one_in root q (subst (λ l. Contains l q) e m)) within;
    keeps = λ s h. h;
    sound = λ s h. inl h;
    part_of = λ s q m h. ap (asks os firsts s) (one_in root q (subst (λ l. Contains l q) e m)) ∙ h;
    closed = λ s p h k. inl (basis.closed s p h k);
    root_met = inr (subst (λ l. Contains l root) (sym e) (0, omega arith, refl));
  }

  module _ (part : Part) (now new : Basis) (rest waiting : List Part) (w : IsWalking now (rest ++ part ∷ [])) where
    pub walk_within : IsIn os (cell_of part)
    walk_within = w.waiting_inside part (Contains-push rest part)

    met_again : has now part ≡ true → IsSame os now new → waiting ≡ rest → IsWalking new waiting
    met_again met same e = record {
      inside = λ p h. w.inside p (sym (same.parts p) ∙ h);
      waiting_inside = λ q m. w.waiting_inside q (was q m);
      keeps = λ s h. same.supports s ∙ w.keeps s h;
      sound = λ s h. w.sound s (sym (same.supports s) ∙ h);
      part_of = λ s q m. w.part_of s q (was q m);
      closed = λ s p h k. elim (w.closed s p (sym (same.parts p) ∙ h) k) [
        | inl n ↦ inl (same.supports s ∙ n)
        | inr r ↦ inr (r.0, r.1, r.2, stays r.0 r.3)
      ];
      root_met = stays root w.root_met;
    }
      where
        was : (q : Part) → Contains waiting q → Contains (rest ++ part ∷ []) q
        was q m = Contains-append_left rest (part ∷ []) q (subst (λ l. Contains l q) e m)

        stays : (q : Part) → (has now q ≡ true) ⊎ Contains (rest ++ part ∷ []) q → (has new q ≡ true) ⊎ Contains waiting q
        stays q (inl h) = inl (same.parts q ∙ h)
        stays q (inr m) = elim (Contains-push_cases rest part q m) [ inl n ↦ inr (subst (λ l. Contains l q) (sym e) n) | inr f ↦ inl (same.parts q ∙ (ap (has now) (sym f) ∙ met)) ]

    met_first : IsMet os firsts part now new rest waiting → IsWalking new waiting
    met_first m = record {
      inside = λ p h. inner_part p h (same_part part p) refl;
      waiting_inside = λ q k. elim (parted q k) [ inl n ↦ w.waiting_inside q (Contains-append_left rest (part ∷ []) q n) | inr n ↦ more.inside q n ];
      keeps = λ s h. noted s (w.keeps s h);
      sound = λ s h. elim (or_cases (notes os now s) (asks_itself os firsts s part) (sym (m.supports s) ∙ h)) [ inl k ↦ w.sound s k | inr k ↦ inr (w.part_of s part (Contains-push rest part) (itself_asks os firsts s part k)) ];
      part_of = λ s q k h. elim (parted q k) [
        | inl n ↦ w.part_of s q (Contains-append_left rest (part ∷ []) q n) h
        | inr n ↦ w.part_of s part (Contains-push rest part) (more.inner s q n h)
      ];
      closed = λ s p h k. closes s p h k (same_part part p) refl;
      root_met = stays root w.root_met;
    }
      where
        more : IsEntered os firsts part rest waiting
        more = m.entered

        parted : (q : Part) → Contains waiting q → Contains rest q ⊎ Contains more.more q
        parted q k = Contains-append_cases rest more.more q (subst (λ l. Contains l q) more.longer k)

        noted : (s : Support) → notes os now s ≡ true → notes os new s ≡ true
        noted s h = m.supports s ∙ or_left (notes os now s) (asks_itself os firsts s part) h

        in_rest : (q : Part) → Contains rest q → Contains waiting q
        in_rest q n = subst (λ l. Contains l q) (sym more.longer) (Contains-append_left rest more.more q n)

        in_more : (q : Part) → Contains more.more q → Contains waiting q
        in_more q n = subst (λ l. Contains l q) (sym more.longer) (Contains-append_right rest more.more q n)

        now_met : has new part ≡ true
        now_met = m.parts part ∙ ap (λ b. cond b true (has now part)) (same_part-itself part)

        still_met : (q : Part) → has now q ≡ true → has new q ≡ true
        still_met q h = m.parts q ∙ (ap (λ b. cond (same_part part q) true b) h ∙ always (same_part part q))
          where
            always : (b : Bool) → cond b true true ≡ true
            always true = refl
            always false = refl

        was_met : (p : Part) → has new p ≡ true → same_part part p ≡ false → has now p ≡ true
        was_met p h f = ap (λ b. cond b true (has now p)) (sym f) ∙ (sym (m.parts p) ∙ h)

        stays : (q : Part) → (has now q ≡ true) ⊎ Contains (rest ++ part ∷ []) q → (has new q ≡ true) ⊎ Contains waiting q
        stays q (inl h) = inl (still_met q h)
        stays q (inr k) = elim (Contains-push_cases rest part q k) [ inl n ↦ inr (in_rest q n) | inr f ↦ inl (ap (has new) (sym f) ∙ now_met) ]

        inner_part : (p : Part) → has new p ≡ true → (b : Bool) → same_part part p ≡ b → IsIn os (cell_of p)
        inner_part p h true e = subst (λ q. IsIn os (cell_of q)) (same_part-eq part p e) walk_within
        inner_part p h false e = w.inside p (was_met p h e)

        closes : (s : Support) (p : Part) → has new p ≡ true → asks os firsts s p ≡ true → (b : Bool) → same_part part p ≡ b → (notes os new s ≡ true) ⊎ ((q : Part) × (cell_of q < cell_of p) × (asks os firsts s q ≡ true) × ((has new q ≡ true) ⊎ Contains waiting q))
        closes s p h k true e =
            let same = same_part-eq part p e in
            elim (more.whole s (ap (asks os firsts s) same ∙ k)) [
              | inl n ↦ inl (m.supports s ∙ or_right (notes os now s) (asks_itself os firsts s part) n)
              | inr r ↦ inr (r.0, subst (λ q. cell_of r.0 < cell_of q) same (more.older r.0 r.1), r.2, inr (in_more r.0 r.1))
            ]
        closes s p h k false e = elim (w.closed s p (was_met p h e) k) [
          | inl n ↦ inl (noted s n)
          | inr r ↦ inr (r.0, r.1, r.2, stays r.0 r.3)
        ]

    pub walk_goes : Meets os firsts part now new rest waiting → IsWalking new waiting
    walk_goes m = elim m [ inl s ↦ met_again s.0 s.1 s.2 | inr n ↦ met_first n ]

  -- ---- the end

  module _ (new : Basis) (waiting : List Part) (none : waiting ≡ []) (w : IsWalking new waiting) where
    no_more : (q : Part) → Contains waiting q → ⊥
    no_more q m = none_in q (subst (λ l. Contains l q) none m)

    all_noted : (n : ℕ) (s : Support) (p : Part) → cell_of p < n → has new p ≡ true → asks os firsts s p ≡ true → notes os new s ≡ true
    all_noted zero s p l h k = absurd (omega arith)
    all_noted (suc n) s p l h k = go (w.closed s p h k) (λ q below. all_noted n s q below)
      where
        go : (notes os new s ≡ true) ⊎ ((q : Part) × (cell_of q < cell_of p) × (asks os firsts s q ≡ true) × ((has new q ≡ true) ⊎ Contains waiting q)) → ((q : Part) → cell_of q < n → has new q ≡ true → asks os firsts s q ≡ true → notes os new s ≡ true) → notes os new s ≡ true
        go (inl m) ih = m
        go (inr r) ih = elim r.3 [ inl m ↦ (let below : cell_of r.0 < n = omega (arith, l, r.1) in ih r.0 below m r.2) | inr m ↦ absurd (no_more r.0 m) ]

    pub walk_closes : IsBasis os firsts new
    walk_closes = record {
      inside = w.inside;
      closed = λ s p h k. all_noted (suc (cell_of p)) s p (omega arith) h k;
    }

    pub walk_notes : (s : Support) → notes os new s ≡ (notes os old s || asks os firsts s root)
    walk_notes s = both_ways (notes os new s) (notes os old s || asks os firsts s root) up down
      where
        up : notes os new s ≡ true → (notes os old s || asks os firsts s root) ≡ true
        up h = elim (w.sound s h) [ inl k ↦ or_left (notes os old s) (asks os firsts s root) k | inr k ↦ or_right (notes os old s) (asks os firsts s root) k ]

        met : has new root ≡ true
        met = elim w.root_met [ inl h ↦ h | inr m ↦ absurd (no_more root m) ]

        down : (notes os old s || asks os firsts s root) ≡ true → notes os new s ≡ true
        down h = elim (or_cases (notes os old s) (asks os firsts s root) h) [ inl k ↦ w.keeps s k | inr k ↦ walk_closes.closed s root met k ]

-- the list from which nothing could be taken
pub nothing_left : {X : Type 0} (was rest : List X) → was ≡ rest ++ [] → length rest ≡ 0 → was ≡ []
nothing_left was [] e h = e
nothing_left was (x ∷ xs) e h = absurd (omega arith)
