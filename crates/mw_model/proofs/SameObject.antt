-- Equality of objects does not look which one comes first.
use Rattle.std.proofs.Common.{◌≡◌, true, false, sym, ◌∙◌, ◌⊎◌, inl, inr, ◌≢◌}
use Rattle.mw_model.specs.Terms.Object.{Object, same_object}
use Rattle.mw_model.proofs.Names.{object_cases, same_object-from}

pub same_object-swap : (x y : Object) → same_object x y ≡ same_object y x
same_object-swap x y = go (object_cases x y) (object_cases y x)
  where
    go : ((same_object x y ≡ true) × (x ≡ y)) ⊎ ((same_object x y ≡ false) × (x ≢ y)) → ((same_object y x ≡ true) × (y ≡ x)) ⊎ ((same_object y x ≡ false) × (y ≢ x)) → same_object x y ≡ same_object y x
    go (inl p) q = p.0 ∙ sym (same_object-from y x (sym p.1))
    go (inr p) (inl q) = absurd (p.1 (sym q.1))
    go (inr p) (inr q) = p.0 ∙ sym q.0
