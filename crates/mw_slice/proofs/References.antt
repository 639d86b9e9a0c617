-- Equal objects have equal references: so a set or a map of references is one of objects.
use Rattle.std.proofs.Common.{◌≡◌, ◌≢◌, ℕ, true, false, ◌||◌, cond, nat_eq, List, [], ◌∷◌, Some, refl, sym, ap, ap₂, ◌∙◌, ◌⊎◌, inl, inr}
use Rattle.std.specs.List.{list_any}
use Rattle.std.specs.Map.{lookup, keys_of}
use Rattle.std.proofs.lemmas.Bool.{eq-eqb, ne_eqb, cases_eq, or_left, or_right}
use Rattle.std.proofs.lemmas.List.Elements.{All-head, All-tail}
use Rattle.mw_model.specs.Terms.Object.{Object, Natural, Symbol, Pair, same_object}
use Rattle.mw_model.specs.Values.Primitive.{is_pair}
use Rattle.mw_model.proofs.Names.{object_cases, same_object-from}
use Rattle.mw_heap.specs.Objects.{object_at, IsIn, AreDistinct}
use Rattle.mw_slice.specs.Firsts.{AreFirsts, first_by}
use Rattle.mw_slice.specs.Supports.{same_atom}

same_atom-pair : (x y : Object) → is_pair x ≡ true → same_atom x y ≡ false
same_atom-pair (Natural n) y h = cc
same_atom-pair (Symbol s) y h = cc
same_atom-pair (Pair a d) (Natural n) h = refl
same_atom-pair (Pair a d) (Symbol s) h = refl
same_atom-pair (Pair a d) (Pair b e) h = refl

same_atom-atom : (x y : Object) → is_pair x ≡ false → same_object x y ≡ same_atom x y
same_atom-atom (Natural n) (Natural m) h = refl
same_atom-atom (Natural n) (Symbol s) h = refl
same_atom-atom (Natural n) (Pair b e) h = refl
same_atom-atom (Symbol s) (Natural m) h = refl
same_atom-atom (Symbol s) (Symbol t) h = refl
same_atom-atom (Symbol s) (Pair b e) h = refl
same_atom-atom (Pair a d) y h = cc

module _ (os : List Object) where
  -- no atom is a pair
  pub no_pair_met : (x : Object) (refs : List ℕ) → is_pair x ≡ true → list_any (λ r. same_atom x (object_at os r)) refs ≡ false
  no_pair_met x [] h = refl
  no_pair_met x (r ∷ refs) h = ap₂ (λ a b. a || b) (same_atom-pair x (object_at os r) h) (no_pair_met x refs h)

  module _ (distinct : AreDistinct os) where
    same-references : (x y : ℕ) → IsIn os x → IsIn os y → nat_eq x y ≡ same_object (object_at os x) (object_at os y)
    same-references x y i j = go (cases_eq x y) (object_cases (object_at os x) (object_at os y))
      where
        go : (x ≡ y) ⊎ (x ≡ y → ⊥) → ((same_object (object_at os x) (object_at os y) ≡ true) × (object_at os x ≡ object_at os y)) ⊎ ((same_object (object_at os x) (object_at os y) ≡ false) × (object_at os x ≢ object_at os y)) → nat_eq x y ≡ same_object (object_at os x) (object_at os y)
        go (inl e) s = eq-eqb x y e ∙ sym (same_object-from (object_at os x) (object_at os y) (ap (object_at os) e))
        go (inr n) (inl p) = absurd (n (distinct x y i j p.1))
        go (inr n) (inr p) = ne_eqb x y n ∙ sym p.0

    pub atom_met : (x : ℕ) (refs : List ℕ) → IsIn os x → ((r : ℕ) → list_any (nat_eq r) refs ≡ true → IsIn os r) → is_pair (object_at os x) ≡ false → list_any (nat_eq x) refs ≡ list_any (λ r. same_atom (object_at os x) (object_at os r)) refs
    atom_met x [] i all h = refl
    atom_met x (r ∷ refs) i all h =
        ap₂ (λ a b. a || b) (same-references x r i (all r (or_left (nat_eq r r) (list_any (nat_eq r) refs) (eq-eqb r r refl))) ∙ same_atom-atom (object_at os x) (object_at os r) h)
        (atom_met x refs i (λ q k. all q (or_right (nat_eq q r) (list_any (nat_eq q) refs) k)) h)

    pub first_by-reference : (x : ℕ) (firsts : List (ℕ × ℕ)) → IsIn os x → AreFirsts os firsts → lookup (nat_eq x) firsts ≡ first_by os firsts (object_at os x)
    first_by-reference x [] i all = refl
    first_by-reference x (e ∷ es) i all =
        ap₂ (λ b o. cond b (Some e.1) o) (same-references x e.0 i (All-head (IsIn os) e.0 (keys_of es) all)) (first_by-reference x es i (All-tail (IsIn os) e.0 (keys_of es) all))
