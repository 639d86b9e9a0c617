-- What derivations become, as the heap grows and one after another.
use Rattle.std.proofs.Common.{◌≡◌, ℕ, ◌+◌, ◌<◌, ◌≤◌, ◌==◌, nat_eq, Bool, true, false, ◌||◌, cond, List, length, take, get_or, Option, Some, None, refl, sym, ap, ◌∙◌, subst, arith, ◌⊎◌, inl, inr, get_or-take}
use Rattle.std.specs.Map.{lookup}
use Rattle.std.specs.List.{list_any}
use Rattle.std.proofs.lemmas.Bool.{cases_lt, eqb-true}
use Rattle.std.proofs.lemmas.List.{length-take-le}
use Rattle.std.proofs.lemmas.List.Folds.{list_any_more}
use Rattle.mw_model.specs.Terms.Object.{Object, Natural, Symbol, Pair}
use Rattle.mw_model.specs.Terms.Term.{ArityTable}
use Rattle.mw_heap.specs.Objects.{object_at, IsIn, Grows, AreDistinct}
use Rattle.mw_heap.proofs.Objects.{IsIn-Grows, object_at-Grows}
use Rattle.mw_heap.specs.Variants.{profile_of}
use Rattle.mw_term.specs.Marking.{ObjectMark, AreMarks, mark_of_object}
use Rattle.mw_proof.specs.Step.{subproofs_of}
use Rattle.mw_proof.specs.Gathered.{IsAmong, AreIn, HasMembers}
use Rattle.mw_proof.specs.Judging.{Basis, basis_over}
use Rattle.mw_proof.proofs.Deciding.{All-map}
use Rattle.mw_proof.proofs.Holding.{basis-grows}
use Rattle.mw_rules.specs.declared.basis.Basis as rules
use Rattle.mw_rules.specs.Basis.{IsBasisIn}
use Rattle.mw_rules.proofs.CallerLemmas.{eqb-swap}
use Rattle.mw_proof.proofs.Gathering.{IsAmong-at, place}
use Rattle.mw_lower.specs.Parts.{AreParts}
use Rattle.mw_lower.specs.Turned.{Becomes, IsTurned, AreMembersTurned, AreSubproofsTurned}

-- of each of these references it is known what it becomes
abbrev pub AreTurned : Basis → List Object → List (ℕ × ℕ) → List ℕ → Type 0
AreTurned b os turned keys = (p : ℕ) → IsAmong keys p → IsTurned b os (lookup (nat_eq p) turned) (object_at os p)

-- what a proof may rest on stays in the heap, as it was
module _ (os new : List Object) (g : Grows os new) where
  pub IsBasisIn-grows : (b : rules.Basis) → IsBasisIn os b → IsBasisIn new b
  IsBasisIn-grows b h = record {
    axioms = All-map (IsIn os) (IsIn new) b.axioms.now (IsIn-Grows os new g) h.axioms;
    theorems = All-map (IsIn os) (IsIn new) b.theorems.now (IsIn-Grows os new g) h.theorems;
  }

  pub basis_over-grows : (A : ArityTable) (b : rules.Basis) → IsBasisIn os b → basis_over new A b ≡ basis_over os A b
  basis_over-grows A b h = basis-grows os new g A b.axioms.now b.theorems.now (profile_of b.profile) h.axioms h.theorems

-- marks that reach no further than the older heap are right in it
pub AreMarks-older : (A : ArityTable) (os new : List Object) (ms : List ObjectMark) → Grows os new → length ms ≤ length os → AreMarks A new ms → AreMarks A os ms
AreMarks-older A os new ms g l h = record { within = l; each = λ i k. h.each i k ∙ ap (λ o. Some (mark_of_object A o)) (object_at-Grows os new g i (omega (arith, k, l))) }

pub IsTurned-grows : (b : Basis) (old new : List Object) → Grows old new → (o : Option ℕ) (p : Object) → IsTurned b old o p → IsTurned b new o p
IsTurned-grows b old new g None p h = h
IsTurned-grows b old new g (Some q) p h = (IsIn-Grows old new g q h.0, subst (Becomes b p) (sym (object_at-Grows old new g q h.0)) h.1)

module _ (b : Basis) (os heap : List Object) (g : Grows os heap) (turned : List (ℕ × ℕ)) (proof : ℕ) (parts : List ℕ) (i : ℕ) (l : i < length parts) (distinct : AreDistinct heap) (s : AreParts os proof parts) (d : AreTurned b heap turned (take i parts)) where
  -- what stands before the next one was turned
  before : (y : ℕ) → IsAmong parts y → y < get_or parts i 0 → IsAmong (take i parts) y
  before y h below = go (place parts y h)
    where
      go : (j : ℕ) × (j < length parts) × (get_or parts j 0 ≡ y) → IsAmong (take i parts) y
      go p = split (cases_lt p.0 i)
        where
          split : (p.0 < i) ⊎ (i ≤ p.0) → IsAmong (take i parts) y
          split (inl k) = subst (IsAmong (take i parts)) (get_or-take i parts p.0 0 k ∙ p.2) (IsAmong-at (take i parts) p.0 (omega (arith, k, length-take-le i parts (omega (arith, l)))))
          split (inr k) = absurd (omega (arith, s.in_order i p.0 k p.1, p.2, below))

  members : (x : Object) → HasMembers os parts (get_or parts i 0) x → AreMembersTurned b heap turned x
  members (Natural n) h = tt
  members (Symbol n) h = tt
  members (Pair a r) h = (λ q q_in e. member q q_in e, members r h.1)
    where
      member : (q : ℕ) → IsIn heap q → object_at heap q ≡ a → IsTurned b heap (lookup (nat_eq q) turned) a
      member q q_in e =
          let y = h.0.0 in
          let y_in = s.within y h.0.2 in
          let is = object_at-Grows os heap g y y_in ∙ h.0.1 in
          let same : y ≡ q = distinct y q (IsIn-Grows os heap g y y_in) q_in (is ∙ sym e) in
          subst (λ z. IsTurned b heap (lookup (nat_eq z) turned) a) same (subst (IsTurned b heap (lookup (nat_eq y) turned)) is (d y (before y h.0.2 h.0.3)))

  pub subproofs_turned : AreSubproofsTurned b heap turned (object_at heap (get_or parts i 0))
  subproofs_turned =
      let p_in = s.within (get_or parts i 0) (IsAmong-at parts i l) in
      subst (AreSubproofsTurned b heap turned) (sym (object_at-Grows os heap g (get_or parts i 0) p_in)) (λ shape. members (subproofs_of (object_at os (get_or parts i 0))) (s.held (get_or parts i 0) (IsAmong-at parts i l) shape))

or-false : (a : Bool) → (a || false) ≡ a
or-false true = refl
or-false false = refl

-- with what the next one becomes
module _ (b : Basis) (os heap new : List Object) (f : Grows os heap) (g : Grows heap new) (parts : List ℕ) (all : AreIn os parts) (old after : List (ℕ × ℕ)) (q i p : ℕ) (l : i < length parts) (is : p ≡ get_or parts i 0) (update : (y : ℕ) → lookup (nat_eq y) after ≡ cond (p == y) (Some q) (lookup (nat_eq y) old)) where
  one_more : (y : ℕ) → list_any (λ z. y == z) (take (i + 1) parts) ≡ (list_any (λ z. y == z) (take i parts) || (p == y))
  one_more y = list_any_more (λ z. y == z) parts i 0 l ∙ ap (λ t. list_any (λ z. y == z) (take i parts) || t) (ap (λ z. y == z) (sym is) ∙ eqb-swap y p)

  in_all : (y : ℕ) → IsAmong (take i parts) y → IsIn os y
  in_all y h =
      let r = place (take i parts) y h in
      let k : r.0 < i = omega (arith, r.1, length-take-le i parts (omega (arith, l))) in
      subst (IsIn os) (sym (get_or-take i parts r.0 0 k) ∙ r.2) (all (get_or parts r.0 0) (IsAmong-at parts r.0 (omega (arith, k, l))))

  pub turned_more : AreTurned b heap old (take i parts) → IsTurned b new (Some q) (object_at new p) → AreTurned b new after (take (i + 1) parts)
  turned_more d here y h = go (p == y) refl
    where
      go : (t : Bool) → (p == y) ≡ t → IsTurned b new (lookup (nat_eq y) after) (object_at new y)
      go true e =
          let same = eqb-true p y e in
          subst (λ z. IsTurned b new z (object_at new y)) (sym (update y ∙ ap (λ t. cond t (Some q) (lookup (nat_eq y) old)) e)) (subst (λ z. IsTurned b new (Some q) (object_at new z)) same here)
      go false e =
          let among = sym (one_more y ∙ (ap (λ t. list_any (λ z. y == z) (take i parts) || t) e ∙ or-false (list_any (λ z. y == z) (take i parts)))) ∙ h in
          let y_in = in_all y among in
          subst (λ z. IsTurned b new z (object_at new y)) (sym (update y ∙ ap (λ t. cond t (Some q) (lookup (nat_eq y) old)) e))
          (subst (IsTurned b new (lookup (nat_eq y) old)) (sym (object_at-Grows heap new g y (IsIn-Grows os heap f y y_in))) (IsTurned-grows b heap new g (lookup (nat_eq y) old) (object_at heap y) (d y among)))
