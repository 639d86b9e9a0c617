-- The labels of a reader, by those of the writer.
use Rattle.std.proofs.Common.{◌≡◌, ℕ, ◌≤◌, Bool, true, false, eqb, cond, [], Some, None, refl, sym, ap, ◌∙◌, subst, if◌then◌else◌, arith, eqb-true, eq-eqb}
use Rattle.std.proofs.lemmas.Bool.{both_ways}
use Rattle.mw_model.specs.Terms.Object.{Object, same_object}
use Rattle.mw_model.specs.Texts.Grammar.{Labels as Begun, Label, Unused, is_begun, labelled, complete}
use Rattle.mw_model.proofs.Names.{same_object-eq}
use Rattle.mw_print.specs.Labelling.{Labels, number_of, one_more, give}

pub differs : (m n : ℕ) → (m ≡ n → ⊥) → eqb m n ≡ false
differs m n h = go (eqb m n) refl
  where
    go : (v : Bool) → eqb m n ≡ v → v ≡ false
    go true e = absurd (h (eqb-true m n e))
    go false e = refl

begun_if : (n : ℕ) (ls : Begun) (y : Object) → labelled n ls ≡ Some y → is_begun n ls ≡ true
begun_if n Unused y h = cc
begun_if n (Label m x ls) y h = go (eqb n m) h (begun_if n ls y)
  where
    go : (v : Bool) → (if v then x else labelled n ls) ≡ Some y → (labelled n ls ≡ Some y → is_begun n ls ≡ true) → (if v then true else is_begun n ls) ≡ true
    go true h more = refl
    go false h more = more h

-- ---- a label whose datum is complete

complete_begun : (m n : ℕ) (x : Object) (ls : Begun) → is_begun m (complete n x ls) ≡ is_begun m ls
complete_begun m n x Unused = refl
complete_begun m n x (Label k y ls) = go (eqb n k) (complete_begun m n x ls)
  where
    go : (v : Bool) → is_begun m (complete n x ls) ≡ is_begun m ls → is_begun m (if v then Label k (Some x) ls else Label k y (complete n x ls)) ≡ (if eqb m k then true else is_begun m ls)
    go true more = refl
    go false more = ap (λ u. if eqb m k then true else u) more

complete_labelled : (n : ℕ) (x : Object) (ls : Begun) → is_begun n ls ≡ true → labelled n (complete n x ls) ≡ Some x
complete_labelled n x Unused h = cc
complete_labelled n x (Label k y ls) h = go (eqb n k) refl h (complete_labelled n x ls)
  where
    go : (v : Bool) → eqb n k ≡ v → (if v then true else is_begun n ls) ≡ true → (is_begun n ls ≡ true → labelled n (complete n x ls) ≡ Some x) → labelled n (if v then Label k (Some x) ls else Label k y (complete n x ls)) ≡ Some x
    go true e i more = ap (λ v. if v then Some x else labelled n ls) e
    go false e i more = ap (λ v. if v then y else labelled n (complete n x ls)) e ∙ more i

complete_others : (m n : ℕ) (x : Object) (ls : Begun) → eqb m n ≡ false → labelled m (complete n x ls) ≡ labelled m ls
complete_others m n x Unused h = refl
complete_others m n x (Label k y ls) h = go (eqb n k) refl (complete_others m n x ls h)
  where
    go : (v : Bool) → eqb n k ≡ v → labelled m (complete n x ls) ≡ labelled m ls → labelled m (if v then Label k (Some x) ls else Label k y (complete n x ls)) ≡ (if eqb m k then y else labelled m ls)
    go true e more =
        let other : eqb m k ≡ false = ap (eqb m) (sym (eqb-true n k e)) ∙ h in
        ap (λ v. if v then Some x else labelled m ls) other ∙ sym (ap (λ v. if v then y else labelled m ls) other)
    go false e more = ap (λ u. if eqb m k then y else u) more

-- ---- readers that fit

-- each label of the writer is one of the reader, and the writer's next numbers are new to the reader
pub record Fits (ls : Begun) (l : Labels) : Type 0 where
  pub known : (y : Object) (n : ℕ) → number_of y l ≡ Some n → labelled n ls ≡ Some y
  pub fresh : (n : ℕ) → l.next ≤ n → is_begun n ls ≡ false

abbrev pub Keeps : Begun → Begun → Type 0
Keeps ls after = (n : ℕ) → is_begun n ls ≡ true → (is_begun n after ≡ true) × (labelled n after ≡ labelled n ls)

pub keeps-refl : (ls : Begun) → Keeps ls ls
keeps-refl ls = λ n h. (h, refl)

pub keeps-trans : (a b c : Begun) → Keeps a b → Keeps b c → Keeps a c
keeps-trans a b c h k = λ n i. let p = h n i in let q = k n p.0 in (q.0, q.1 ∙ p.1)

pub fits-first : (first : ℕ) → Fits Unused (record { given = []; next = first })
fits-first first = record { known = λ y n h. cc; fresh = λ n h. refl }

module _ (ls : Begun) (l : Labels) (f : Fits ls l) where
  other : (m : ℕ) → is_begun m ls ≡ true → eqb m l.next ≡ false
  other m h = differs m l.next (λ e. both_ways (is_begun l.next ls) (f.fresh l.next (omega arith)) (subst (λ k. is_begun k ls ≡ true) e h))

  -- the next label is begun
  pub fits-new : Fits (Label l.next None ls) (one_more l)
  fits-new = record {
    known = λ y m h.
        let k = f.known y m h in
        ap (λ v. if v then None else labelled m ls) (other m (begun_if m ls y k)) ∙ k;
    fresh = λ m h. ap (λ v. if v then true else is_begun m ls) (differs m l.next (λ e. omega (arith, e, h))) ∙ f.fresh m (omega (arith, h));
  }

  -- and its datum is complete
  module _ (x : Object) (after : Begun) (w : Labels) (g : Fits after w) (keeps : Keeps (Label l.next None ls) after) where
    begun_new : is_begun l.next (Label l.next None ls) ≡ true
    begun_new = ap (λ v. if v then true else is_begun l.next ls) (eq-eqb l.next l.next refl)

    none_yet : labelled l.next after ≡ None
    none_yet = (keeps l.next begun_new).1 ∙ ap (λ v. if v then None else labelled l.next ls) (eq-eqb l.next l.next refl)

    known_given : (y : Object) (m : ℕ) (v : Bool) → same_object x y ≡ v → cond v (Some l.next) (number_of y w) ≡ Some m → labelled m (complete l.next x after) ≡ Some y
    known_given y m true e h =
        let same : l.next ≡ m = only h in
        subst (λ k. labelled k (complete l.next x after) ≡ Some y) same (complete_labelled l.next x after (keeps l.next begun_new).0 ∙ ap Some (same_object-eq x y e))
      where
        only : Some l.next ≡ Some m → l.next ≡ m
        only i = cc
    known_given y m false e h =
        let k = g.known y m h in
        complete_others m l.next x after (differs m l.next (λ same. none_some (sym none_yet ∙ (ap (λ n. labelled n after) (sym same) ∙ k)))) ∙ k
      where
        none_some : None ≡ Some y → ⊥
        none_some i = cc

    pub fits-given : Fits (complete l.next x after) (give x l.next w)
    fits-given = record {
      known = λ y m h. known_given y m (same_object x y) refl h;
      fresh = λ m h. complete_begun m l.next x after ∙ g.fresh m h;
    }

    pub keeps-given : Keeps ls (complete l.next x after)
    keeps-given = λ m h.
        let o = other m h in
        let begun : is_begun m (Label l.next None ls) ≡ true = ap (λ v. if v then true else is_begun m ls) o ∙ h in
        let k = keeps m begun in
        (complete_begun m l.next x after ∙ k.0, complete_others m l.next x after o ∙ (k.1 ∙ ap (λ v. if v then None else labelled m ls) o))
