-- Equal objects have equal references.
use Rattle.std.proofs.Common.{◌≡◌, ◌≢◌, ℕ, Bool, true, false, ◌&&◌, ◌||◌, nat_eq, ltb, List, [], ◌∷◌, length, refl, sym, ap, ap₂, ◌∙◌, ◌⊎◌, inl, inr, ltb-true, ltb-false, arith}
use Rattle.std.specs.List.{list_any}
use Rattle.std.proofs.lemmas.Bool.{eq-eqb, ne_eqb, cases_eq}
use Rattle.mw_model.specs.Terms.Object.{Object, same_object}
use Rattle.mw_model.proofs.Names.{object_cases, same_object-from}
use Rattle.mw_heap.specs.Objects.{object_at, IsIn, AreDistinct}
use Rattle.mw_print.specs.Waiting.{is_one_of}

module _ (os : List Object) (distinct : AreDistinct os) where
  pub same-references : (x y : ℕ) → IsIn os x → IsIn os y → nat_eq x y ≡ same_object (object_at os x) (object_at os y)
  same-references x y i j = go (cases_eq x y) (object_cases (object_at os x) (object_at os y))
    where
      go : (x ≡ y) ⊎ (x ≡ y → ⊥) → ((same_object (object_at os x) (object_at os y) ≡ true) × (object_at os x ≡ object_at os y)) ⊎ ((same_object (object_at os x) (object_at os y) ≡ false) × (object_at os x ≢ object_at os y)) → nat_eq x y ≡ same_object (object_at os x) (object_at os y)
      go (inl e) s = eq-eqb x y e ∙ sym (same_object-from (object_at os x) (object_at os y) (ap (object_at os) e))
      go (inr n) (inl p) = absurd (n (distinct x y i j p.1))
      go (inr n) (inr p) = ne_eqb x y n ∙ sym p.0

  swapped : (x y : ℕ) → nat_eq x y ≡ nat_eq y x
  swapped x y = go (cases_eq x y)
    where
      go : (x ≡ y) ⊎ (x ≡ y → ⊥) → nat_eq x y ≡ nat_eq y x
      go (inl e) = eq-eqb x y e ∙ sym (eq-eqb y x (sym e))
      go (inr n) = ne_eqb x y n ∙ sym (ne_eqb y x (λ e. n (sym e)))

  pub swapped-references : (x r : ℕ) → IsIn os x → IsIn os r → nat_eq x r ≡ same_object (object_at os r) (object_at os x)
  swapped-references x r i j = swapped x r ∙ same-references r x j i

  one_reference : (x r : ℕ) → IsIn os x → nat_eq x r ≡ (ltb r (length os) && same_object (object_at os r) (object_at os x))
  one_reference x r i = go (ltb r (length os)) refl
    where
      go : (b : Bool) → ltb r (length os) ≡ b → nat_eq x r ≡ (b && same_object (object_at os r) (object_at os x))
      go true e = swapped-references x r i (ltb-true r (length os) e)
      go false e = ne_eqb x r (λ same. omega (arith, same, i, ltb-false r (length os) e))

  -- a reference is one of those to its object
  pub list_any-references : (refs : List ℕ) (x : ℕ) → IsIn os x → list_any (nat_eq x) refs ≡ is_one_of os refs (object_at os x)
  list_any-references [] x i = refl
  list_any-references (r ∷ refs) x i = ap₂ (λ a b. a || b) (one_reference x r i) (list_any-references refs x i)
