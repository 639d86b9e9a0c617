-- A substitution by references is that of its object.
use Rattle.std.proofs.Common.{◌≡◌, ℕ, Bool, true, false, cond, nat_eq, List, [], ◌∷◌, ◌++◌, Option, Some, None, refl, sym, ap, ap₂, ◌∙◌, subst, eqb-true, eq-eqb}
use Rattle.std.specs.Map.{lookup}
use Rattle.std.proofs.lemmas.Bool.Decides.{same_from_decides}
use Rattle.mw_model.specs.Terms.Object.{Object, Pair, same_object}
use Rattle.mw_model.specs.Laws.Rules.{image_object}
use Rattle.mw_model.proofs.Names.{same_object-eq, same_object-from}
use Rattle.mw_heap.specs.Objects.{object_at, IsIn, Grows, AreDistinct}
use Rattle.mw_heap.proofs.Objects.{object_at-Grows, IsIn-Grows}
use Rattle.mw_subst.specs.Sigma.{sigma_object, AreIn, term_for, term_or, HasOneMore}

-- the term for a variable, or the variable
abbrev pub image_of : Option ℕ → ℕ → ℕ
image_of None x = x
image_of (Some t) x = t

module _ (os : List Object) (distinct : AreDistinct os) (x : ℕ) (within : IsIn os x) where
  one : (y : ℕ) → IsIn os y → nat_eq x y ≡ same_object (object_at os y) (object_at os x)
  one y in_y =
      same_from_decides {P = x ≡ y} (nat_eq x y) (same_object (object_at os y) (object_at os x)) ((λ h. eqb-true x y h), (λ e. eq-eqb x y e))
      ((λ h. sym (distinct y x in_y within (same_object-eq (object_at os y) (object_at os x) h))), (λ e. same_object-from (object_at os y) (object_at os x) (ap (object_at os) (sym e))))

  pub image_of-term_for : (s : List (ℕ × ℕ)) → AreIn os s → object_at os (image_of (term_for s x) x) ≡ image_object (sigma_object os s) (object_at os x)
  image_of-term_for [] h = refl
  image_of-term_for (p ∷ s) h = go (nat_eq x p.0) refl (image_of-term_for s h.2)
    where
      go : (b : Bool) → nat_eq x p.0 ≡ b → object_at os (image_of (term_for s x) x) ≡ image_object (sigma_object os s) (object_at os x)
          → object_at os (image_of (cond b (Some p.1) (term_for s x)) x) ≡ cond (same_object (object_at os p.0) (object_at os x)) (object_at os p.1) (image_object (sigma_object os s) (object_at os x))
      go true e rest = sym (ap (λ b. cond b (object_at os p.1) (image_object (sigma_object os s) (object_at os x))) (sym (one p.0 h.0) ∙ e))
      go false e rest = rest ∙ sym (ap (λ b. cond b (object_at os p.1) (image_object (sigma_object os s) (object_at os x))) (sym (one p.0 h.0) ∙ e))

pub term_for-in : (os : List Object) (x t : ℕ) (s : List (ℕ × ℕ)) → AreIn os s → term_for s x ≡ Some t → IsIn os t
term_for-in os x t [] h e = cc
term_for-in os x t (p ∷ s) h e = go (nat_eq x p.0) e (term_for-in os x t s h.2)
  where
    go : (b : Bool) → cond b (Some p.1) (term_for s x) ≡ Some t → (term_for s x ≡ Some t → IsIn os t) → IsIn os t
    go true k rest = let q : p.1 ≡ t = cc in subst (IsIn os) q h.1
    go false k rest = rest k

-- the object stays as the heap grows
pub sigma_object-Grows : (old new : List Object) (s : List (ℕ × ℕ)) → Grows old new → AreIn old s → sigma_object new s ≡ sigma_object old s
sigma_object-Grows old new [] g h = refl
sigma_object-Grows old new (p ∷ s) g h = ap₂ Pair (ap₂ Pair (object_at-Grows old new g p.0 h.0) (object_at-Grows old new g p.1 h.1)) (sigma_object-Grows old new s g h.2)

pub AreIn-Grows : (old new : List Object) (s : List (ℕ × ℕ)) → Grows old new → AreIn old s → AreIn new s
AreIn-Grows old new [] g h = tt
AreIn-Grows old new (p ∷ s) g h = (IsIn-Grows old new g p.0 h.0, IsIn-Grows old new g p.1 h.1, AreIn-Grows old new s g h.2)

-- the term for x with one more pair at the end
pub term_for-push : (s : List (ℕ × ℕ)) (v t x : ℕ) → term_for (s ++ (v, t) ∷ []) x ≡ term_or (term_for s x) (cond (nat_eq x v) (Some t) None)
term_for-push [] v t x = refl
term_for-push (p ∷ s) v t x = go (nat_eq x p.0) (term_for-push s v t x)
  where
    go : (b : Bool) → term_for (s ++ (v, t) ∷ []) x ≡ term_or (term_for s x) (cond (nat_eq x v) (Some t) None)
        → cond b (Some p.1) (term_for (s ++ (v, t) ∷ []) x) ≡ term_or (cond b (Some p.1) (term_for s x)) (cond (nat_eq x v) (Some t) None)
    go true rest = refl
    go false rest = rest

-- what is found with one more entry at the end
pub lookup-push : (es : List (ℕ × ℕ)) (v t x : ℕ) → lookup (nat_eq x) (es ++ (v, t) ∷ []) ≡ term_or (lookup (nat_eq x) es) (cond (nat_eq x v) (Some t) None)
lookup-push [] v t x = refl
lookup-push (p ∷ es) v t x = go (nat_eq x p.0) (lookup-push es v t x)
  where
    go : (b : Bool) → lookup (nat_eq x) (es ++ (v, t) ∷ []) ≡ term_or (lookup (nat_eq x) es) (cond (nat_eq x v) (Some t) None)
        → cond b (Some p.1) (lookup (nat_eq x) (es ++ (v, t) ∷ [])) ≡ term_or (cond b (Some p.1) (lookup (nat_eq x) es)) (cond (nat_eq x v) (Some t) None)
    go true rest = refl
    go false rest = rest

-- a variable that has a term keeps it
pub one_more-kept : (es : List (ℕ × ℕ)) (v t u : ℕ) → lookup (nat_eq v) es ≡ Some u → HasOneMore es es v t
one_more-kept es v t u h x = go (nat_eq x v) refl
  where
    left : (o : Option ℕ) → o ≡ term_or o None
    left None = refl
    left (Some w) = refl

    go : (b : Bool) → nat_eq x v ≡ b → lookup (nat_eq x) es ≡ term_or (lookup (nat_eq x) es) (cond b (Some t) None)
    go false e = left (lookup (nat_eq x) es)
    go true e = let k : lookup (nat_eq x) es ≡ Some u = ap (λ y. lookup (nat_eq y) es) (eqb-true x v e) ∙ h in k ∙ sym (ap (λ o. term_or o (Some t)) k)
