-- Objects on a list, and their references.
use Rattle.std.proofs.Common.{◌≡◌, ℕ, nat_eq, Bool, true, false, ◌||◌, if◌then◌else◌, List, [], ◌∷◌, ◌++◌, map, All, inl, inr, refl, sym, ap, ap₂, ◌∙◌}
use Rattle.std.specs.List.{list_any}
use Rattle.std.proofs.lemmas.Bool.{eq-eqb, ne_eqb}
use Rattle.std.proofs.lemmas.List.{map-append}
use Rattle.std.proofs.lemmas.List.Elements.{All-head, All-tail}
use Rattle.indexmap.specs.IndexSet.{insert_key}
use Rattle.mw_model.specs.Terms.Object.{Object, same_object}
use Rattle.mw_model.proofs.Names.{same_object-eq, same_object-refl, object_cases}
use Rattle.mw_heap.specs.Objects.{object_at, IsIn, AreDistinct}
use Rattle.mw_term.proofs.Gathered.{IsListing}
use Rattle.mw_flat.specs.Walk.{is_listed}

pub listing : IsListing same_object is_listed
listing = record { equal = same_object-eq; itself = same_object-refl; on_none = λ x. refl; on_more = λ x y ys. refl }

module _ (os : List Object) (distinct : AreDistinct os) (x : ℕ) (x_in : IsIn os x) where
  by_objects : (x y : Object) (b : Bool) → (x ≡ y → b ≡ true) → ((x ≡ y → ⊥) → b ≡ false) → b ≡ same_object x y
  by_objects x y b same apart = elim (object_cases x y) [ inl s ↦ same s.1 ∙ sym s.0 | inr s ↦ apart s.1 ∙ sym s.0 ]

  pub same_reference : (r : ℕ) → IsIn os r → nat_eq x r ≡ same_object (object_at os x) (object_at os r)
  same_reference r r_in = by_objects (object_at os x) (object_at os r) (nat_eq x r) (λ e. eq-eqb x r (distinct x r x_in r_in e)) (λ n. ne_eqb x r (λ e. n (ap (object_at os) e)))

  pub same_reference_to : (r : ℕ) → IsIn os r → nat_eq x r ≡ same_object (object_at os r) (object_at os x)
  same_reference_to r r_in = by_objects (object_at os r) (object_at os x) (nat_eq x r) (λ e. eq-eqb x r (sym (distinct r x r_in x_in e))) (λ n. ne_eqb x r (λ e. n (ap (object_at os) (sym e))))

  -- a reference is among others where its object is among theirs
  pub listed_reference : (refs : List ℕ) → All (IsIn os) refs → list_any (nat_eq x) refs ≡ is_listed (object_at os x) (map (object_at os) refs)
  listed_reference [] h = refl
  listed_reference (r ∷ refs) h = ap₂ (λ a b. a || b) (same_reference r (All-head (IsIn os) r refs h)) (listed_reference refs (All-tail (IsIn os) r refs h))

  pub insert_reference : (refs : List ℕ) → All (IsIn os) refs → map (object_at os) (insert_key nat_eq refs x) ≡ insert_key same_object (map (object_at os) refs) (object_at os x)
  insert_reference refs h = go (list_any (nat_eq x) refs) ∙ ap (λ b. if b then map (object_at os) refs else map (object_at os) refs ++ object_at os x ∷ []) (listed_reference refs h)
    where
      go : (b : Bool) → map (object_at os) (if b then refs else refs ++ x ∷ []) ≡ (if b then map (object_at os) refs else map (object_at os) refs ++ object_at os x ∷ [])
      go true = refl
      go false = map-append (object_at os) refs (x ∷ [])
