-- The parts that wait for one another on the path of the walk, and what was made so far.
use Rattle.std.proofs.Common.{◌≡◌, ℕ, zero, suc, ◌+◌, ◌*◌, ◌-◌, ◌<◌, ◌≤◌, Bool, true, false, cond, eqb, List, [], ◌∷◌, ◌++◌, length, map, slice_get, Some, None, ◌||◌, ◌⊎◌, inl, inr, refl, sym, ap, ap₂, ◌∙◌, subst, eqb-true, length-append, suc-mul, arith}
use Rattle.std.specs.Map.{keys_of}
use Rattle.std.specs.List.{IsDistinct, list_any, AllByRecursion}
use Rattle.std.proofs.lemmas.Option.{slice_get_within}
use Rattle.std.proofs.lemmas.Map.Entries.{length-keys_of}
use Rattle.std.proofs.lemmas.Map.Steps.{length-le_from_distinct_below}
use Rattle.std.proofs.lemmas.Map.Keys.{IsDistinct-head, IsDistinct-tail, IsDistinct-cons, IsDistinct-from_apart}
use Rattle.std.proofs.lemmas.List.{length-map}
use Rattle.mw_model.specs.Terms.Object.{Object}
use Rattle.mw_model.specs.Terms.Term.{ArityTable}
use Rattle.mw_model.proofs.ReadBack.{some_one}
use Rattle.mw_heap.specs.Objects.{object_at, IsIn, Grows}
use Rattle.mw_heap.proofs.Lists.{slice_get-append, slice_get-seam, slice_get-push}
use Rattle.mw_heap.proofs.Objects.{object_at-Grows, IsIn-Grows, Grows-trans}
use Rattle.mw_translate.specs.declared.part.Part.{Part}
use Rattle.mw_translate.specs.declared.part.Kind.{Kind}
use Rattle.mw_translate.specs.declared.part.Kind.TheVariants as kind
use Rattle.mw_translate.specs.declared.made.Made.{Made}
use Rattle.mw_translate.specs.contracts.part.PartPartialEq.TheImpl.{ghosts}
use Rattle.mw_translate.specs.Meaning.{meaning}
use Rattle.mw_translate.specs.Parts.{part_at}
use Rattle.mw_translate.specs.Memo.{Entries, found, AreUnique, AreMade, meaning_at}
use Rattle.mw_translate.proofs.Combine.{part-eq, part-same}

-- a part as a number: nine for each cell
abbrev kind_number : Kind → ℕ
kind_number kind.Term = 0
kind_number kind.Terms = 1
kind_number kind.And = 2
kind_number kind.Or = 3
kind_number kind.List = 4
kind_number kind.Cond = 5
kind_number kind.Names = 6
kind_number kind.Values = 7
kind_number kind.Head = 8

kind_few : (k : Kind) → kind_number k < 9
kind_few kind.Term = omega arith
kind_few kind.Terms = omega arith
kind_few kind.And = omega arith
kind_few kind.Or = omega arith
kind_few kind.List = omega arith
kind_few kind.Cond = omega arith
kind_few kind.Names = omega arith
kind_few kind.Values = omega arith
kind_few kind.Head = omega arith

abbrev kind_of : ℕ → Kind
kind_of n =
    cond (eqb n 0) kind.Term (cond (eqb n 1) kind.Terms (cond (eqb n 2) kind.And (cond (eqb n 3) kind.Or (cond (eqb n 4) kind.List (cond (eqb n 5) kind.Cond (cond (eqb n 6) kind.Names (cond (eqb n 7) kind.Values kind.Head)))))))

kind_back : (k : Kind) → kind_of (kind_number k) ≡ k
kind_back kind.Term = refl
kind_back kind.Terms = refl
kind_back kind.And = refl
kind_back kind.Or = refl
kind_back kind.List = refl
kind_back kind.Cond = refl
kind_back kind.Names = refl
kind_back kind.Values = refl
kind_back kind.Head = refl

abbrev number : Part → ℕ
number p = kind_number p.kind + 9 * p.cell

number-one : (p q : Part) → number p ≡ number q → p ≡ q
number-one p q e =
    let a = kind_few p.kind in
    let b = kind_few q.kind in
    let k : kind_number p.kind ≡ kind_number q.kind = omega (arith, a, b, e) in
    let c : p.cell ≡ q.cell = omega (arith, a, b, e) in
    ap₂ part_at (sym (kind_back p.kind) ∙ (ap kind_of k ∙ kind_back q.kind)) c

number-apart : (p q : Part) → ghosts.eq p q ≡ false → eqb (number p) (number q) ≡ false
number-apart p q h = go (eqb (number p) (number q)) refl
  where
    go : (b : Bool) → eqb (number p) (number q) ≡ b → b ≡ false
    go true e = let t : ghosts.eq p q ≡ true = subst (λ z. ghosts.eq p z ≡ true) (number-one p q (eqb-true (number p) (number q) e)) (part-same p) in cc
    go false e = refl

all_apart : (p : Part) (ps : List Part) → AllByRecursion (λ q. ghosts.eq p q ≡ false) ps → AllByRecursion (λ n. eqb (number p) n ≡ false) (map number ps)
all_apart p [] h = h
all_apart p (q ∷ ps) h = (number-apart p q h.0, all_apart p ps h.1)

distinct-numbers : (ps : List Part) → IsDistinct ghosts.eq ps → IsDistinct eqb (map number ps)
distinct-numbers [] h = IsDistinct-from_apart eqb [] (λ i j d l m. absurd (omega arith))
distinct-numbers (p ∷ ps) h = IsDistinct-cons eqb (number p) (map number ps) (all_apart p ps (IsDistinct-head ghosts.eq p ps h)) (distinct-numbers ps (IsDistinct-tail ghosts.eq p ps h))

-- each entry is of a cell below n
abbrev pub AreSmall : ℕ → Entries → Type 0
AreSmall n [] = Unit {0}
AreSmall n (e ∷ es) = (e.0.cell < n) × AreSmall n es

small-push : (n : ℕ) (p : Part) (m : Made) (es : Entries) → AreSmall n es → p.cell < n → AreSmall n (es ++ (p, m) ∷ [])
small-push n p m [] h b = (b, tt)
small-push n p m (e ∷ es) h b = (h.0, small-push n p m es h.1 b)

numbers_below : (n : ℕ) (es : Entries) → AreSmall n es → (q : ℕ) → list_any (eqb q) (map number (keys_of es)) ≡ true → q < 9 * n
numbers_below n [] h q e = cc
numbers_below n (f ∷ es) h q e = go (eqb q (number f.0)) refl e (numbers_below n es h.1 q)
  where
    go : (b : Bool) → eqb q (number f.0) ≡ b → (b || list_any (eqb q) (map number (keys_of es))) ≡ true → (list_any (eqb q) (map number (keys_of es)) ≡ true → q < 9 * n) → q < 9 * n
    go true t k rest = let same = eqb-true q (number f.0) t in let few = kind_few f.0.kind in omega (arith, same, few, h.0)
    go false t k rest = rest k

few : (n : ℕ) (es : Entries) → AreSmall n es → AreUnique es → length es ≤ 9 * n
few n es h d =
    let l = length-le_from_distinct_below (map number (keys_of es)) (9 * n) (distinct-numbers (keys_of es) d) (numbers_below n es h) in
    omega (arith, l, length-map (keys_of es) number, length-keys_of es)

made-Grows : (A : ArityTable) (old new : List Object) (es : Entries) → Grows old new → AreMade A old es → AreMade A new es
made-Grows A old new [] g h = tt
made-Grows A old new (e ∷ es) g h =
    (IsIn-Grows old new g e.0.cell h.0, IsIn-Grows old new g e.1.object h.1, ap (meaning A e.0.kind) (object_at-Grows old new g e.0.cell h.0) ∙ (h.2 ∙ ap (λ o. Some (o, e.1.count)) (sym (object_at-Grows old new g e.1.object h.1))), made-Grows A old new es g h.3)

made-push : (A : ArityTable) (os : List Object) (p : Part) (m : Made) (es : Entries) → AreMade A os es → IsIn os p.cell → IsIn os m.object → meaning_at A os p ≡ Some (object_at os m.object, m.count) → AreMade A os (es ++ (p, m) ∷ [])
made-push A os p m [] h i j e = (i, j, e, tt)
made-push A os p m (f ∷ es) h i j e = (h.0, h.1, h.2, made-push A os p m es h.3 i j e)

-- what is found with one more entry
found-push : (p q : Part) (m : Made) (es : Entries) → ghosts.eq q p ≡ false → found es q ≡ None → found (es ++ (p, m) ∷ []) q ≡ None
found-push p q m [] e n = ap (λ b. cond b (Some m) None) e
found-push p q m (f ∷ es) e n = go (ghosts.eq q f.0) n (found-push p q m es e)
  where
    go : (b : Bool) → cond b (Some f.1) (found es q) ≡ None → (found es q ≡ None → found (es ++ (p, m) ∷ []) q ≡ None) → cond b (Some f.1) (found (es ++ (p, m) ∷ []) q) ≡ None
    go true k rest = cc
    go false k rest = rest k

found-pushed : (p : Part) (m : Made) (es : Entries) → found es p ≡ None → found (es ++ (p, m) ∷ []) p ≡ Some m
found-pushed p m [] n = ap (λ b. cond b (Some m) None) (part-same p)
found-pushed p m (f ∷ es) n = go (ghosts.eq p f.0) n (found-pushed p m es)
  where
    go : (b : Bool) → cond b (Some f.1) (found es p) ≡ None → (found es p ≡ None → found (es ++ (p, m) ∷ []) p ≡ Some m) → cond b (Some f.1) (found (es ++ (p, m) ∷ []) p) ≡ Some m
    go true k rest = cc
    go false k rest = rest k

other_part : (p q : Part) → (p.cell ≡ q.cell → ⊥) → ghosts.eq p q ≡ false
other_part p q h = go (ghosts.eq p q) refl
  where
    go : (b : Bool) → ghosts.eq p q ≡ b → b ≡ false
    go true e = absurd (h (ap (λ r. r.cell) (part-eq p q e)))
    go false e = refl

pub record IsPath (A : ArityTable) (first now : List Object) (x : ℕ) (es : Entries) (path : List Part) : Type 0 where
  pub grows : Grows first now
  pub made : AreMade A now es
  pub unique : AreUnique es
  pub small : AreSmall (x + 1) es
  pub falls : (i j : ℕ) (p q : Part) → i < j → slice_get path i ≡ Some p → slice_get path j ≡ Some q → q.cell < p.cell
  pub wanted : (i : ℕ) (p : Part) → slice_get path i ≡ Some p → found es p ≡ None
  pub needed : (i : ℕ) (p : Part) → slice_get path i ≡ Some p → meaning A p.kind (object_at first p.cell) ≡ None → meaning A kind.Term (object_at first x) ≡ None
  pub root : ((path ≡ []) × (m : Made) × (found es (part_at kind.Term x) ≡ Some m)) ⊎ (slice_get path 0 ≡ Some (part_at kind.Term x))

-- the cell of the last part, and one
abbrev pub height : List Part → ℕ
height [] = 0
height (p ∷ []) = p.cell + 1
height (p ∷ q ∷ ps) = height (q ∷ ps)

pub height-push : (ps : List Part) (p : Part) → height (ps ++ p ∷ []) ≡ p.cell + 1
height-push [] p = refl
height-push (q ∷ []) p = refl
height-push (q ∷ r ∷ ps) p = height-push (r ∷ ps) p

height-bound : (x : ℕ) (ps : List Part) → ((i : ℕ) (p : Part) → slice_get ps i ≡ Some p → p.cell ≤ x) → height ps ≤ x + 1
height-bound x [] h = omega arith
height-bound x (p ∷ []) h = let b = h 0 p refl in omega (arith, b)
height-bound x (p ∷ q ∷ ps) h = height-bound x (q ∷ ps) (λ i r at. h (suc i) r at)

-- what is left to do
abbrev pub left : ℕ → Entries → List Part → ℕ
left x es path = (9 * (x + 1) - length es) * (x + 2) + height path

-- all that is on a path is below its root
below_root : (path : List Part) (x i : ℕ) (p : Part) → ((i j : ℕ) (p q : Part) → i < j → slice_get path i ≡ Some p → slice_get path j ≡ Some q → q.cell < p.cell) → slice_get path 0 ≡ Some (part_at kind.Term x) → slice_get path i ≡ Some p → p.cell ≤ x
below_root path x zero p falls root at = let e : p ≡ part_at kind.Term x = some_one (sym at ∙ root) in subst (λ q. q.cell ≤ x) (sym e) (omega arith)
below_root path x (suc i) p falls root at = let h : p.cell < x = falls 0 (suc i) (part_at kind.Term x) p (omega arith) root at in omega (arith, h)

not_empty : (ps : List Part) (p : Part) → ps ++ p ∷ [] ≡ [] → ⊥
not_empty ps p e = let l = ap length e in absurd (omega (arith, l, length-append ps (p ∷ [])))

-- the path as it begins
pub path-start : (A : ArityTable) (os : List Object) (x : ℕ) (es : Entries) (path : List Part) → Grows os os → es ≡ [] → path ≡ part_at kind.Term x ∷ [] → IsPath A os os x es path
path-start A os x es path g none one =
    subst (λ l. IsPath A os os x l path) (sym none) (subst (IsPath A os os x []) (sym one) (record {
      grows = g;
      made = tt;
      unique = IsDistinct-from_apart ghosts.eq [] (λ i j d l m. absurd (omega arith));
      small = tt;
      falls = λ i j p q k at_i at_j. let l = slice_get_within (part_at kind.Term x ∷ []) j q at_j in absurd (omega (arith, k, l));
      wanted = λ i p at. refl;
      needed = λ i p at h. subst (λ q. meaning A q.kind (object_at os q.cell) ≡ None) (sym (only i p at)) h;
      root = inr refl;
    }))
  where
    only : (i : ℕ) (p : Part) → slice_get (part_at kind.Term x ∷ []) i ≡ Some p → part_at kind.Term x ≡ p
    only zero p at = some_one at
    only (suc i) p at = let l = slice_get_within (part_at kind.Term x ∷ []) (suc i) p at in absurd (omega (arith, l))

module _ (A : ArityTable) (first now new : List Object) (x : ℕ) (es : Entries) (rest : List Part) (part : Part) (path : IsPath A first now x es (rest ++ part ∷ [])) where
  last_at : slice_get (rest ++ part ∷ []) (length rest) ≡ Some part
  last_at = slice_get-seam rest [] part

  root_at : slice_get (rest ++ part ∷ []) 0 ≡ Some (part_at kind.Term x)
  root_at = elim path.root [ inl e ↦ absurd (not_empty rest part e.0) | inr r ↦ r ]

  pub last_below : part.cell ≤ x
  last_below = below_root (rest ++ part ∷ []) x (length rest) part path.falls root_at last_at

  pub last_wanted : found es part ≡ None
  last_wanted = path.wanted (length rest) part last_at

  pub last_needed : meaning A part.kind (object_at first part.cell) ≡ None → meaning A kind.Term (object_at first x) ≡ None
  last_needed = path.needed (length rest) part last_at

  earlier : (i : ℕ) (p : Part) → slice_get rest i ≡ Some p → (slice_get (rest ++ part ∷ []) i ≡ Some p) × (part.cell < p.cell)
  earlier i p at =
      let b = slice_get_within rest i p at in
      let here : slice_get (rest ++ part ∷ []) i ≡ Some p = slice_get-append rest (part ∷ []) i b ∙ at in
      (here, path.falls i (length rest) p part b here last_at)

  -- no part on the path is below the last one
  above : (i : ℕ) (p : Part) → slice_get (rest ++ part ∷ []) i ≡ Some p → part.cell ≤ p.cell
  above i p at = elim (slice_get-push rest part p i at) [ inl h ↦ let e = (earlier i p h.1).1 in omega (arith, e) | inr h ↦ let e = ap (λ q. q.cell) h.1 in omega (arith, e) ]

  -- a smaller part is wanted first
  pub path-wants : (inner : Part) → Grows now new → inner.cell < part.cell → found es inner ≡ None → (meaning A inner.kind (object_at first inner.cell) ≡ None → meaning A part.kind (object_at first part.cell) ≡ None) → IsPath A first new x es ((rest ++ part ∷ []) ++ inner ∷ [])
  path-wants inner g less none needs = record {
    grows = Grows-trans first now new path.grows g;
    made = made-Grows A now new es g path.made;
    unique = path.unique;
    small = path.small;
    falls = λ i j p q k at_i at_j.
        elim (slice_get-push (rest ++ part ∷ []) inner q j at_j) [
          | inl h ↦ elim (slice_get-push (rest ++ part ∷ []) inner p i at_i) [ inl m ↦ path.falls i j p q k m.1 h.1 | inr m ↦ absurd (omega (arith, k, h.0, m.0)) ]
          | inr h ↦
              elim (slice_get-push (rest ++ part ∷ []) inner p i at_i) [
                | inl m ↦ let a = above i p m.1 in let e = ap (λ r. r.cell) h.1 in omega (arith, a, e, less)
                | inr m ↦ absurd (omega (arith, k, h.0, m.0))
              ]
        ];
    wanted = λ i p at. elim (slice_get-push (rest ++ part ∷ []) inner p i at) [ inl h ↦ path.wanted i p h.1 | inr h ↦ ap (found es) (sym h.1) ∙ none ];
    needed = λ i p at. elim (slice_get-push (rest ++ part ∷ []) inner p i at) [ inl h ↦ path.needed i p h.1 | inr h ↦ λ n. last_needed (needs (subst (λ q. meaning A q.kind (object_at first q.cell) ≡ None) (sym h.1) n)) ];
    root = inr (slice_get-append (rest ++ part ∷ []) (inner ∷ []) 0 (slice_get_within (rest ++ part ∷ []) 0 (part_at kind.Term x) root_at) ∙ root_at);
  }

  -- the part was made
  module _ (m : Made) where
    root_after : (ps : List Part) → rest ≡ ps → ((ps ≡ []) × (n : Made) × (found (es ++ (part, m) ∷ []) (part_at kind.Term x) ≡ Some n)) ⊎ (slice_get ps 0 ≡ Some (part_at kind.Term x))
    root_after [] e =
        let is : part ≡ part_at kind.Term x = some_one (sym (ap (λ l. slice_get (l ++ part ∷ []) 0) e) ∙ root_at) in
        inl (refl, m, subst (λ p. found (es ++ (part, m) ∷ []) p ≡ Some m) is (found-pushed part m es last_wanted))
    root_after (p ∷ ps) e = inr (sym (ap (λ l. slice_get (l ++ part ∷ []) 0) e) ∙ root_at)

    pub path-made : Grows now new → IsIn now part.cell → IsIn new m.object → meaning_at A now part ≡ Some (object_at new m.object, m.count) → AreUnique (es ++ (part, m) ∷ []) → IsPath A first new x (es ++ (part, m) ∷ []) rest
    path-made g in_part in_m e u = record {
      grows = Grows-trans first now new path.grows g;
      made = made-push A new part m es (made-Grows A now new es g path.made) (IsIn-Grows now new g part.cell in_part) in_m (ap (meaning A part.kind) (object_at-Grows now new g part.cell in_part) ∙ e);
      unique = u;
      small = small-push (x + 1) part m es path.small (omega (arith, last_below));
      falls = λ i j p q k at_i at_j. path.falls i j p q k (earlier i p at_i).0 (earlier j q at_j).0;
      wanted = λ i p at. let h = earlier i p at in found-push part p m es (other_part p part (λ c. absurd (omega (arith, c, h.1)))) (path.wanted i p h.0);
      needed = λ i p at. path.needed i p (earlier i p at).0;
      root = root_after rest refl;
    }

    -- one part less is left
    pub left-made : AreUnique (es ++ (part, m) ∷ []) → left x (es ++ (part, m) ∷ []) rest < left x es (rest ++ part ∷ [])
    left-made u =
        let l = few (x + 1) (es ++ (part, m) ∷ []) (small-push (x + 1) part m es path.small (omega (arith, last_below))) u in
        let n = length-append es ((part, m) ∷ []) in
        let h = height-bound x rest (λ i p at. below_root (rest ++ part ∷ []) x i p path.falls root_at (earlier i p at).0) in
        let one : 9 * (x + 1) - length es ≡ suc (9 * (x + 1) - length (es ++ (part, m) ∷ [])) = omega (arith, l, n) in
        let product = ap (λ k. k * (x + 2)) one ∙ suc-mul (9 * (x + 1) - length (es ++ (part, m) ∷ [])) (x + 2) in
        omega (arith, h, product)

  -- what waits is smaller
  pub left-wants : (inner : Part) → inner.cell < part.cell → left x es ((rest ++ part ∷ []) ++ inner ∷ []) < left x es (rest ++ part ∷ [])
  left-wants inner less = omega (arith, height-push (rest ++ part ∷ []) inner, height-push rest part)
