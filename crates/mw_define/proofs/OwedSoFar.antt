-- The formulas that are owed so far, each once, by references.
use Rattle.std.proofs.Common.{◌≡◌, ℕ, suc, ◌≤◌, le_refl, arith, Bool, true, false, ◌||◌, not, eqb, List, [], ◌∷◌, ◌++◌, length, map, filter, cond, Option, Some, None, inl, inr, refl, sym, ap, ap₂, ◌∙◌, subst, if◌then◌else◌, append_assoc, length-append, eqb-true, eq-eqb, ltb-true, lt-ltb}
use Rattle.std.specs.List.{list_any}
use Rattle.std.specs.Cmp.{both_ways as same_test}
use Rattle.std.proofs.lemmas.List.{append-nil}
use Rattle.mw_model.specs.Terms.Object.{Object, Pair, NIL}
use Rattle.mw_model.specs.Terms.Term.{Formula, formula_object, firsts}
use Rattle.mw_model.specs.Terms.Same.{same_formula}
use Rattle.mw_model.specs.Terms.Reading.{formula_of}
use Rattle.mw_model.specs.Laws.RulesInduction.{formulas_object}
use Rattle.mw_model.proofs.ReadBack.{some_one}
use Rattle.mw_model.proofs.SameTerms.{same_formula-eq, same_formula-refl}
use Rattle.mw_heap.specs.Objects.{object_at, IsIn, Grows, AreDistinct}
use Rattle.mw_heap.proofs.Objects.{object_at-Grows}
use Rattle.mw_translate.specs.Lets.{prepend, AreAllIn}
use Rattle.mw_translate.proofs.Appended.{all_in-push, all_in-Grows}
use Rattle.mw_define.specs.declared.obligations.Obligations.{Obligations}
use Rattle.mw_define.specs.Owed.{IsReadBack, AreReadBack, is_past, AreFirsts, AreOwed, Adds}

-- whether a formula is one of some
abbrev is_one_of : List Formula → Formula → Bool
is_one_of Gs F = list_any (λ G. same_formula G F) Gs

-- the same formulas, with one more where it is none of them
abbrev with_one : List Formula → Formula → List Formula
with_one Gs F = cond (is_one_of Gs F) Gs (Gs ++ F ∷ [])

others-one : (G F : Formula) → same_formula G F ≡ false → (Hs : List Formula) → is_one_of (filter (λ H. not (same_formula G H)) Hs) F ≡ is_one_of Hs F
others-one G F n [] = refl
others-one G F n (H ∷ Hs) = go (same_formula G H) refl (others-one G F n Hs)
  where
    go : (b : Bool) → same_formula G H ≡ b → is_one_of (filter (λ K. not (same_formula G K)) Hs) F ≡ is_one_of Hs F → is_one_of (cond (not b) (H ∷ filter (λ K. not (same_formula G K)) Hs) (filter (λ K. not (same_formula G K)) Hs)) F ≡ (same_formula H F || is_one_of Hs F)
    go true e k = k ∙ ap (λ b. b || is_one_of Hs F) (sym (ap (λ K. same_formula K F) (sym (same_formula-eq G H e)) ∙ n))
    go false e k = ap (λ b. same_formula H F || b) k

filter-append : (p : Formula → Bool) (Hs Ks : List Formula) → filter p (Hs ++ Ks) ≡ filter p Hs ++ filter p Ks
filter-append p [] Ks = refl
filter-append p (H ∷ Hs) Ks = go (p H) (filter-append p Hs Ks)
  where
    go : (b : Bool) → filter p (Hs ++ Ks) ≡ filter p Hs ++ filter p Ks → cond b (H ∷ filter p (Hs ++ Ks)) (filter p (Hs ++ Ks)) ≡ cond b (H ∷ filter p Hs) (filter p Hs) ++ filter p Ks
    go true k = ap (λ l. H ∷ l) k
    go false k = k

-- one more formula comes last where it is new
firsts-push : (Fs : List Formula) (F : Formula) → firsts same_formula (Fs ++ F ∷ []) ≡ with_one (firsts same_formula Fs) F
firsts-push [] F = refl
firsts-push (G ∷ Fs) F =
    ap (λ l. G ∷ filter (λ H. not (same_formula G H)) l) (firsts-push Fs F) ∙ go (same_formula G F) (is_one_of Ls F) refl refl
  where
    Ls : List Formula
    Ls = firsts same_formula Fs

    p : Formula → Bool
    p = λ H. not (same_formula G H)

    go : (a b : Bool) → same_formula G F ≡ a → is_one_of Ls F ≡ b → G ∷ filter p (cond (is_one_of Ls F) Ls (Ls ++ F ∷ [])) ≡ cond (same_formula G F || is_one_of (filter p Ls) F) (G ∷ filter p Ls) ((G ∷ filter p Ls) ++ F ∷ [])
    go true true e k =
        ap (λ c. G ∷ filter p (cond c Ls (Ls ++ F ∷ []))) k ∙ sym (ap (λ c. cond (c || is_one_of (filter p Ls) F) (G ∷ filter p Ls) ((G ∷ filter p Ls) ++ F ∷ [])) e)
    go true false e k =
        ap (λ c. G ∷ filter p (cond c Ls (Ls ++ F ∷ []))) k
        ∙ (ap (λ l. G ∷ l) (filter-append p Ls (F ∷ []) ∙ (ap (λ c. filter p Ls ++ cond (not c) (F ∷ []) []) e ∙ append-nil (filter p Ls)))
        ∙ sym (ap (λ c. cond (c || is_one_of (filter p Ls) F) (G ∷ filter p Ls) ((G ∷ filter p Ls) ++ F ∷ [])) e))
    go false true e k =
        ap (λ c. G ∷ filter p (cond c Ls (Ls ++ F ∷ []))) k
        ∙ sym (ap (λ c. cond c (G ∷ filter p Ls) ((G ∷ filter p Ls) ++ F ∷ [])) (ap (λ c. c || is_one_of (filter p Ls) F) e ∙ (others-one G F e Ls ∙ k)))
    go false false e k =
        ap (λ c. G ∷ filter p (cond c Ls (Ls ++ F ∷ []))) k
        ∙ (ap (λ l. G ∷ l) (filter-append p Ls (F ∷ []) ∙ ap (λ c. filter p Ls ++ cond (not c) (F ∷ []) []) e)
        ∙ sym (ap (λ c. cond c (G ∷ filter p Ls) ((G ∷ filter p Ls) ++ F ∷ [])) (ap (λ c. c || is_one_of (filter p Ls) F) e ∙ (others-one G F e Ls ∙ k))))

-- no fewer formulas are distinct where more came
with-length : (Gs : List Formula) (F : Formula) (b : Bool) → length Gs ≤ length (cond b Gs (Gs ++ F ∷ []))
with-length Gs F true = le_refl (length Gs)
with-length Gs F false = omega (arith, length-append Gs (F ∷ []))

firsts-more : (Fs Gs : List Formula) → length (firsts same_formula Fs) ≤ length (firsts same_formula (Fs ++ Gs))
firsts-more Fs [] = omega (arith, ap (λ l. length (firsts same_formula l)) (append-nil Fs))
firsts-more Fs (G ∷ Gs) =
    let Ls = firsts same_formula Fs in
    omega (arith, with-length Ls G (is_one_of Ls G), ap length (firsts-push Fs G), firsts-more (Fs ++ G ∷ []) Gs, ap (λ l. length (firsts same_formula l)) (append_assoc Fs (G ∷ []) Gs))

past-more : (most : Option ℕ) (n k : ℕ) → n ≤ k → is_past most n ≡ true → is_past most k ≡ true
past-more None n k l h = h
past-more (Some most) n k l h = lt-ltb most k (omega (arith, l, ltb-true most n h))

past-same : (more o : Obligations) → more.most ≡ o.most → (n : ℕ) → is_past o.most n ≡ true → is_past more.most n ≡ true
past-same more o m n h = ap (λ most. is_past most n) m ∙ h

read-push : (Fs Gs : List Formula) → AreReadBack Fs → AreReadBack Gs → AreReadBack (Fs ++ Gs)
read-push [] Gs h k = k
read-push (F ∷ Fs) Gs h k = (h.0, read-push Fs Gs h.1 k)

read-filter : (p : Formula → Bool) (Fs : List Formula) → AreReadBack Fs → AreReadBack (filter p Fs)
read-filter p [] h = tt
read-filter p (F ∷ Fs) h = go (p F) (read-filter p Fs h.1)
  where
    go : (b : Bool) → AreReadBack (filter p Fs) → AreReadBack (cond b (F ∷ filter p Fs) (filter p Fs))
    go true k = (h.0, k)
    go false k = k

read-firsts : (Fs : List Formula) → AreReadBack Fs → AreReadBack (firsts same_formula Fs)
read-firsts [] h = tt
read-firsts (F ∷ Fs) h = (h.0, read-filter (λ H. not (same_formula F H)) (firsts same_formula Fs) (read-firsts Fs h.1))

formula-one : (F G : Formula) → IsReadBack F → IsReadBack G → formula_object F ≡ formula_object G → F ≡ G
formula-one F G h k e = some_one (sym h ∙ (ap formula_of e ∙ k))

module _ (os : List Object) (distinct : AreDistinct os) (r : ℕ) (within : IsIn os r) (F : Formula) (is : object_at os r ≡ formula_object F) (read : IsReadBack F) where
  -- the reference is among some exactly where the formula is among theirs
  among : (rs : List ℕ) (Gs : List Formula) → AreAllIn os rs → AreReadBack Gs → map (object_at os) rs ≡ map formula_object Gs → list_any (eqb r) rs ≡ is_one_of Gs F
  among [] [] i h e = refl
  among [] (G ∷ Gs) i h e = cc
  among (q ∷ rs) [] i h e = cc
  among (q ∷ rs) (G ∷ Gs) i h e =
      let first : object_at os q ≡ formula_object G = cc in
      let rest : map (object_at os) rs ≡ map formula_object Gs = cc in
      ap₂ (λ a b. a || b)
      (same_test (eqb r q) (same_formula G F)
      (λ k. let z : formula_object G ≡ formula_object F = sym first ∙ (ap (object_at os) (sym (eqb-true r q k)) ∙ is) in
      ap (λ H. same_formula H F) (formula-one G F h.0 read z) ∙ same_formula-refl F)
      (λ k. eq-eqb r q (distinct r q within i.0 (is ∙ (ap formula_object (sym (same_formula-eq G F k)) ∙ sym first)))))
      (among rs Gs i.1 h.1 rest)

  map-push : (rs : List ℕ) → map (object_at os) (rs ++ r ∷ []) ≡ map (object_at os) rs ++ object_at os r ∷ []
  map-push [] = refl
  map-push (q ∷ rs) = ap (λ l. object_at os q ∷ l) (map-push rs)

  objects-push : (Gs : List Formula) → map formula_object (Gs ++ F ∷ []) ≡ map formula_object Gs ++ formula_object F ∷ []
  objects-push [] = refl
  objects-push (G ∷ Gs) = ap (λ l. formula_object G ∷ l) (objects-push Gs)

  -- one formula more
  firsts-one : (rs more : List ℕ) → more ≡ (if list_any (eqb r) rs then rs else rs ++ r ∷ []) → (Fs : List Formula) → AreFirsts os rs Fs → AreFirsts os more (Fs ++ F ∷ [])
  firsts-one rs more e Fs h = go Fs h (list_any (eqb r) rs) refl
    where
      go : (Fs : List Formula) → AreFirsts os rs Fs → (b : Bool) → list_any (eqb r) rs ≡ b → AreFirsts os more (Fs ++ F ∷ [])
      go Fs h b k =
          let Gs = firsts same_formula Fs in
          let one : is_one_of Gs F ≡ b = sym (among rs Gs h.within (read-firsts Fs h.read) h.formulas) ∙ k in
          let last : firsts same_formula (Fs ++ F ∷ []) ≡ cond b Gs (Gs ++ F ∷ []) = firsts-push Fs F ∙ ap (λ c. cond c Gs (Gs ++ F ∷ [])) one in
          let is_more : more ≡ cond b rs (rs ++ r ∷ []) = e ∙ ap (λ c. if c then rs else rs ++ r ∷ []) k in
          by Fs h b last is_more
        where
          by : (Fs : List Formula) → AreFirsts os rs Fs → (b : Bool) → firsts same_formula (Fs ++ F ∷ []) ≡ cond b (firsts same_formula Fs) (firsts same_formula Fs ++ F ∷ []) → more ≡ cond b rs (rs ++ r ∷ []) → AreFirsts os more (Fs ++ F ∷ [])
          by Fs h true l m = record {
            read = read-push Fs (F ∷ []) h.read (read, tt);
            within = subst (AreAllIn os) (sym m) h.within;
            formulas = ap (map (object_at os)) m ∙ (h.formulas ∙ ap (map formula_object) (sym l));
          }
          by Fs h false l m = record {
            read = read-push Fs (F ∷ []) h.read (read, tt);
            within = subst (AreAllIn os) (sym m) (all_in-push os rs r h.within within);
            formulas =
                ap (map (object_at os)) m
                ∙ (map-push rs
                ∙ (ap₂ (λ l o. l ++ o ∷ []) h.formulas is ∙ (sym (objects-push (firsts same_formula Fs)) ∙ ap (map formula_object) (sym l))));
          }

  kept-more : (rs more : List ℕ) (b : Bool) → more ≡ (if b then rs else rs ++ r ∷ []) → length rs ≤ length more
  kept-more rs more true e = omega (arith, ap length e)
  kept-more rs more false e = omega (arith, ap length e, length-append rs (r ∷ []))

  pub adds-one : (o more : Obligations) → more.most ≡ o.most → more.formulas.keys ≡ (if list_any (eqb r) o.formulas.keys then o.formulas.keys else o.formulas.keys ++ r ∷ []) → Adds os os o more (F ∷ [])
  adds-one o more m e = record {
    most = m;
    owed = λ Fs h.
        elim h [
          | inl k ↦ inl (firsts-one o.formulas.keys more.formulas.keys e Fs k)
          | inr k ↦
              inr (record {
                kept = past-same more o m (length more.formulas.keys) (past-more o.most (length o.formulas.keys) (length more.formulas.keys) (kept-more o.formulas.keys more.formulas.keys (list_any (eqb r) o.formulas.keys) e) k.kept);
                distinct = past-same more o m (length (firsts same_formula (Fs ++ F ∷ []))) (past-more o.most (length (firsts same_formula Fs)) (length (firsts same_formula (Fs ++ F ∷ []))) (firsts-more Fs (F ∷ [])) k.distinct);
              })
        ];
  }

-- nothing is owed at first
pub owed-none : (os : List Object) (o : Obligations) → o.formulas.keys ≡ [] → AreOwed os o []
owed-none os o e = inl (subst (λ rs. AreFirsts os rs []) (sym e) (record { read = tt; within = tt; formulas = refl }))

-- where too many are kept, nothing more has to be
map-length : {X Y : Type 0} (f : X → Y) (xs : List X) → length (map f xs) ≡ length xs
map-length f [] = refl
map-length f (x ∷ xs) = ap suc (map-length f xs)

pub firsts-length : (os : List Object) (rs : List ℕ) (Fs : List Formula) → AreFirsts os rs Fs → length rs ≡ length (firsts same_formula Fs)
firsts-length os rs Fs h = sym (map-length (object_at os) rs) ∙ (ap length h.formulas ∙ map-length formula_object (firsts same_formula Fs))

pub adds-past : (os : List Object) (o : Obligations) (Gs : List Formula) → is_past o.most (length o.formulas.keys) ≡ true → Adds os os o o Gs
adds-past os o Gs t = record {
  most = refl;
  owed = λ Fs h.
      elim h [
        | inl k ↦ more Fs (subst (λ n. is_past o.most n ≡ true) (firsts-length os o.formulas.keys Fs k) t)
        | inr k ↦ more Fs k.distinct
      ];
}
  where
    more : (Fs : List Formula) → is_past o.most (length (firsts same_formula Fs)) ≡ true → AreOwed os o (Fs ++ Gs)
    more Fs d = inr (record { kept = t; distinct = past-more o.most (length (firsts same_formula Fs)) (length (firsts same_formula (Fs ++ Gs))) (firsts-more Fs Gs) d })

-- growth, and one addition after another
objects-Grows : (old new : List Object) (rs : List ℕ) → Grows old new → AreAllIn old rs → map (object_at new) rs ≡ map (object_at old) rs
objects-Grows old new [] g h = refl
objects-Grows old new (r ∷ rs) g h = ap₂ (λ x xs. x ∷ xs) (object_at-Grows old new g r h.0) (objects-Grows old new rs g h.1)

owed-Grows : (old new : List Object) (o : Obligations) (Fs : List Formula) → Grows old new → AreOwed old o Fs → AreOwed new o Fs
owed-Grows old new o Fs g h =
    let rs = o.formulas.keys in
    elim h [
      | inl k ↦ inl (record { read = k.read; within = all_in-Grows old new rs g k.within; formulas = objects-Grows old new rs g k.within ∙ k.formulas })
      | inr k ↦ inr k
    ]

pub adds-later : (old cur new : List Object) (o more : Obligations) (Gs : List Formula) → Grows old cur → Adds cur new o more Gs → Adds old new o more Gs
adds-later old cur new o more Gs g a = record { most = a.most; owed = λ Fs h. a.owed Fs (owed-Grows old cur o Fs g h) }

pub adds-none : (old new : List Object) (o : Obligations) → Grows old new → Adds old new o o []
adds-none old new o g = record { most = refl; owed = λ Fs h. subst (AreOwed new o) (sym (append-nil Fs)) (owed-Grows old new o Fs g h) }

pub adds-both : (old cur new : List Object) (o more last : Obligations) (Gs Hs : List Formula) → Adds old cur o more Gs → Adds cur new more last Hs → Adds old new o last (Gs ++ Hs)
adds-both old cur new o more last Gs Hs a b = record { most = b.most ∙ a.most; owed = λ Fs h. subst (AreOwed new last) (append_assoc Fs Gs Hs) (b.owed (Fs ++ Gs) (a.owed Fs h)) }

-- the list of the formulas
pub listed-formulas : (os : List Object) (rs : List ℕ) (Gs : List Formula) → map (object_at os) rs ≡ map formula_object Gs → prepend os rs NIL ≡ formulas_object Gs
listed-formulas os [] [] e = refl
listed-formulas os [] (G ∷ Gs) e = cc
listed-formulas os (r ∷ rs) [] e = cc
listed-formulas os (r ∷ rs) (G ∷ Gs) e =
    let first : object_at os r ≡ formula_object G = cc in
    let rest : map (object_at os) rs ≡ map formula_object Gs = cc in
    ap₂ Pair first (listed-formulas os rs Gs rest)
