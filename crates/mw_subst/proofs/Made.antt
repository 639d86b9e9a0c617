-- Results so far: what is found among them, and how they stay.
use Rattle.std.proofs.Common.{◌≡◌, ℕ, Bool, true, false, cond, nat_eq, List, [], ◌∷◌, ◌++◌, Option, Some, None, refl, sym, ap, ◌∙◌, subst, eqb-true}
use Rattle.std.specs.Map.{lookup}
use Rattle.mw_model.specs.Terms.Object.{Object, Pair, symbol, same_object}
use Rattle.mw_model.specs.Laws.Rules.{substitute_object, substitute_each_object}
use Rattle.mw_heap.specs.Objects.{object_at, IsIn, Grows}
use Rattle.mw_heap.proofs.Objects.{object_at-Grows, IsIn-Grows}
use Rattle.mw_subst.specs.Memo.{AreResults}

module _ (os : List Object) (f : Object → Object) where
  -- what is found is what f gives
  pub result_found : (x r : ℕ) (es : List (ℕ × ℕ)) → AreResults os f es → lookup (nat_eq x) es ≡ Some r → IsIn os r × (object_at os r ≡ f (object_at os x))
  result_found x r [] h e = cc
  result_found x r (p ∷ es) h e = go (nat_eq x p.0) refl e (result_found x r es h.3)
    where
      go : (b : Bool) → nat_eq x p.0 ≡ b → cond b (Some p.1) (lookup (nat_eq x) es) ≡ Some r → (lookup (nat_eq x) es ≡ Some r → IsIn os r × (object_at os r ≡ f (object_at os x))) → IsIn os r × (object_at os r ≡ f (object_at os x))
      go true t k rest =
          let q : p.1 ≡ r = cc in
          (subst (IsIn os) q h.1, ap (object_at os) (sym q) ∙ (h.2 ∙ ap (λ y. f (object_at os y)) (sym (eqb-true x p.0 t))))
      go false t k rest = rest k

  pub results-push : (x r : ℕ) (es : List (ℕ × ℕ)) → AreResults os f es → IsIn os x → IsIn os r → object_at os r ≡ f (object_at os x) → AreResults os f (es ++ (x, r) ∷ [])
  results-push x r [] h in_x in_r e = (in_x, in_r, e, tt)
  results-push x r (p ∷ es) h in_x in_r e = (h.0, h.1, h.2, results-push x r es h.3 in_x in_r e)

pub results-Grows : (old new : List Object) (f : Object → Object) (es : List (ℕ × ℕ)) → Grows old new → AreResults old f es → AreResults new f es
results-Grows old new f [] g h = tt
results-Grows old new f (p ∷ es) g h =
    (IsIn-Grows old new g p.0 h.0, IsIn-Grows old new g p.1 h.1, object_at-Grows old new g p.1 h.1 ∙ (h.2 ∙ ap f (sym (object_at-Grows old new g p.0 h.0))), results-Grows old new f es g h.3)

-- what is made of a list that is no constant
pub substitute-list : (s h r : Object) → same_object h (symbol "QUOTE") ≡ false → substitute_object s (Pair h r) ≡ Pair h (substitute_each_object s r)
substitute-list s h r e = ap (λ b. cond b (Pair h r) (Pair h (substitute_each_object s r))) e

-- what is not found
pub none_found : (o : Option ℕ) → ((r : ℕ) → o ≡ Some r → ⊥) → o ≡ None
none_found None h = refl
none_found (Some r) h = absurd (h r refl)
