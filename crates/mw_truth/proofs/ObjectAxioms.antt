-- What the axioms on objects, pairs and symbols say of values.
use Rattle.std.proofs.Common.{◌≡◌, ℕ, true, false, List, [], ◌∷◌, refl, ap, subst, ◌⊎◌, inl, inr, ⊎_elim, arith}
use Rattle.std.proofs.lemmas.Bool.{cases_Bool, both_ways}
use Rattle.mw_model.specs.Terms.Object.{Object, Natural, Symbol, Pair, named, same_bytes, is_before_bytes, truth_of, NIL, T}
use Rattle.mw_model.specs.Values.Primitive.{Profile, name_of}
use Rattle.mw_model.specs.Values.Value.{Environment}
use Rattle.mw_model.specs.Proofs.Axioms.{axiom_1, axiom_2, axiom_3, axiom_4, axiom_5, axiom_6, axiom_7, axiom_8, axiom_9, axiom_10, axiom_11, axiom_12, axiom_13, axiom_14, axiom_15, axiom_16, axiom_17, axiom_18, axiom_19, axiom_20, axiom_21, axiom_22, axiom_23, axiom_24, axiom_25, axiom_26, axiom_53}
use Rattle.mw_model.proofs.Names.{same_bytes-refl, same_name-eq, object_cases}
use Rattle.mw_model.proofs.Order.{bytes_tri}
use Rattle.mw_model.proofs.BytesOrder.{bytes_irreflexive, bytes_transitive}
use Rattle.mw_truth.proofs.PrimitiveValues.{Says}
use Rattle.mw_truth.proofs.Having.{truth_true}
use Rattle.mw_truth.proofs.Tells.{tells}

abbrev pub four : Object → Object → Object → Object → Environment
four x1 y1 x2 y2 = (named "X1", x1) ∷ (named "Y1", y1) ∷ (named "X2", x2) ∷ (named "Y2", y2) ∷ []

abbrev pub objects : Object → Object → Object → Environment
objects x y z = (named "X", x) ∷ (named "Y", y) ∷ (named "Z", z) ∷ []

bytes_self : (x : List ℕ) → is_before_bytes x x ≡ false
bytes_self x = ⊎_elim (λ h. absurd (bytes_irreflexive x h)) (λ h. h) (cases_Bool (is_before_bytes x x))

less_one_way : (x y : List ℕ) → (truth_of (is_before_bytes x y) ≡ T → ⊥) ⊎ (truth_of (is_before_bytes y x) ≡ NIL)
less_one_way x y = go (cases_Bool (is_before_bytes y x))
  where
    go : (is_before_bytes y x ≡ true) ⊎ (is_before_bytes y x ≡ false) → (truth_of (is_before_bytes x y) ≡ T → ⊥) ⊎ (truth_of (is_before_bytes y x) ≡ NIL)
    go (inl h) = inl (λ k. bytes_irreflexive x (bytes_transitive x y x (truth_true (is_before_bytes x y) (truth_of (is_before_bytes x y)) refl k) h))
    go (inr h) = inr (ap truth_of h)

less_transitive : (x y z : List ℕ) → (truth_of (is_before_bytes x y) ≡ T → ⊥) ⊎ ((truth_of (is_before_bytes y z) ≡ T → ⊥) ⊎ (truth_of (is_before_bytes x z) ≡ T))
less_transitive x y z = go (cases_Bool (is_before_bytes x z)) (cases_Bool (is_before_bytes x y))
  where
    go : (is_before_bytes x z ≡ true) ⊎ (is_before_bytes x z ≡ false) → (is_before_bytes x y ≡ true) ⊎ (is_before_bytes x y ≡ false) → (truth_of (is_before_bytes x y) ≡ T → ⊥) ⊎ ((truth_of (is_before_bytes y z) ≡ T → ⊥) ⊎ (truth_of (is_before_bytes x z) ≡ T))
    go (inl h) k = inr (inr (ap truth_of h))
    go (inr h) (inr k) = inl (λ l. both_ways (is_before_bytes x y) k (truth_true (is_before_bytes x y) (truth_of (is_before_bytes x y)) refl l))
    go (inr h) (inl k) = inr (inl (λ l. both_ways (is_before_bytes x z) h (bytes_transitive x y z k (truth_true (is_before_bytes y z) (truth_of (is_before_bytes y z)) refl l))))

pub axiom_1-says : (P : Profile) (x y z : Object) → Says P (objects x y z) axiom_1
axiom_1-says P x y z = grind (arith, tells)

pub axiom_2-says : (P : Profile) (x1 y1 x2 y2 : Object) → Says P (four x1 y1 x2 y2) axiom_2
axiom_2-says P x1 y1 x2 y2 =
    let p = object_cases x1 y1 in
    let q = object_cases x2 y2 in
    let r = object_cases x1 x2 in
    grind (arith, tells)

pub axiom_3-says : (P : Profile) (x y z : Object) → Says P (objects x y z) axiom_3
axiom_3-says P x y z = grind (arith, tells)

pub axiom_4-says : (P : Profile) (x y z : Object) → Says P (objects x y z) axiom_4
axiom_4-says P x y z = grind (arith, tells, object_cases)

pub axiom_5-says : (P : Profile) (x y z : Object) → Says P (objects x y z) axiom_5
axiom_5-says P x y z = grind (arith, tells, object_cases)

pub axiom_6-says : (P : Profile) (x y z : Object) → Says P (objects x y z) axiom_6
axiom_6-says P x y z = grind (arith, tells)

pub axiom_7-says : (P : Profile) (x y z : Object) → Says P (objects x y z) axiom_7
axiom_7-says P x y z = grind (arith, tells, object_cases)

pub axiom_8-says : (P : Profile) (x y z : Object) → Says P (objects x y z) axiom_8
axiom_8-says P x y z = grind (arith, tells)

pub axiom_9-says : (P : Profile) (x y z : Object) → Says P (objects x y z) axiom_9
axiom_9-says P x y z = grind (arith, tells)

pub axiom_10-says : (P : Profile) (x y z : Object) → Says P (objects x y z) axiom_10
axiom_10-says P x y z = grind (arith, tells)

pub axiom_11-says : (P : Profile) (x y z : Object) → Says P (objects x y z) axiom_11
axiom_11-says P x y z = grind (arith, tells)

pub axiom_12-says : (P : Profile) (x y z : Object) → Says P (objects x y z) axiom_12
axiom_12-says P x y z = grind (arith, tells)

pub axiom_13-says : (P : Profile) (x y z : Object) → Says P (objects x y z) axiom_13
axiom_13-says P x y z = grind (arith, tells)

pub axiom_14-says : (P : Profile) (x y z : Object) → Says P (objects x y z) axiom_14
axiom_14-says P x y z = grind (arith, tells)

pub axiom_15-says : (P : Profile) (x y z : Object) → Says P (objects x y z) axiom_15
axiom_15-says P x y z = grind (arith, tells)

pub axiom_16-says : (P : Profile) (x y z : Object) → Says P (objects x y z) axiom_16
axiom_16-says P x y z = grind (arith, tells)

pub axiom_17-says : (P : Profile) (x y z : Object) → Says P (objects x y z) axiom_17
axiom_17-says P x y z = ap truth_of (bytes_self (name_of x).bytes)

pub axiom_18-says : (P : Profile) (x y z : Object) → Says P (objects x y z) axiom_18
axiom_18-says P x y z = less_one_way (name_of x).bytes (name_of y).bytes

pub axiom_19-says : (P : Profile) (x y z : Object) → Says P (objects x y z) axiom_19
axiom_19-says P x y z = less_transitive (name_of x).bytes (name_of y).bytes (name_of z).bytes

pub axiom_20-says : (P : Profile) (x y z : Object) → Says P (objects x y z) axiom_20
axiom_20-says P (Natural n) y z = inl refl
axiom_20-says P (Pair a b) y z = inl refl
axiom_20-says P (Symbol s) (Natural n) z = inr (inl refl)
axiom_20-says P (Symbol s) (Pair a b) z = inr (inl refl)
axiom_20-says P (Symbol s) (Symbol r) z = inr (inr (go (bytes_tri s.bytes r.bytes)))
  where
    go : (is_before_bytes s.bytes r.bytes ≡ true) ⊎ ((s.bytes ≡ r.bytes) ⊎ (is_before_bytes r.bytes s.bytes ≡ true)) → (truth_of (is_before_bytes s.bytes r.bytes) ≡ T) ⊎ ((truth_of (is_before_bytes r.bytes s.bytes) ≡ T) ⊎ (Symbol s ≡ Symbol r))
    go (inl h) = inl (ap truth_of h)
    go (inr (inl h)) = inr (inr (ap Symbol (same_name-eq s r (subst (λ b. same_bytes s.bytes b ≡ true) h (same_bytes-refl s.bytes)))))
    go (inr (inr h)) = inr (inl (ap truth_of h))

pub axiom_21-says : (P : Profile) (x y z : Object) → Says P (objects x y z) axiom_21
axiom_21-says P x y z = grind (arith, tells)

pub axiom_22-says : (P : Profile) (x y z : Object) → Says P (objects x y z) axiom_22
axiom_22-says P x y z = grind (arith, tells)

pub axiom_23-says : (P : Profile) (x y z : Object) → Says P (objects x y z) axiom_23
axiom_23-says P x y z = grind (arith, tells)

pub axiom_24-says : (P : Profile) (x y z : Object) → Says P (objects x y z) axiom_24
axiom_24-says P x y z = grind (arith, tells)

pub axiom_25-says : (P : Profile) (x y z : Object) → Says P (objects x y z) axiom_25
axiom_25-says P x y z = grind (arith, tells)

pub axiom_26-says : (P : Profile) (x y z : Object) → Says P (objects x y z) axiom_26
axiom_26-says P x y z = grind (arith, tells)

pub axiom_53-says : (P : Profile) (x y z : Object) → Says P (objects x y z) axiom_53
axiom_53-says P x y z = grind (arith, tells)
