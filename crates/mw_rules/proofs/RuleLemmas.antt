-- The rules over references.
use Rattle.std.proofs.Common.{◌≡◌, ◌≢◌, ℕ, zero, suc, ◌==◌, Bool, true, false, ◌&&◌, ◌||◌, List, [], ◌∷◌, length, Option, Some, None, refl, sym, ap, ap₂, ◌∙◌, ◌⊎◌, inl, inr}
use Rattle.std.specs.List.{list_any, All}
use Rattle.std.proofs.lemmas.Bool.{eq-eqb, ne_eqb, cases_eq}
use Rattle.std.proofs.lemmas.List.Elements.{All-head, All-tail}
use Rattle.mw_model.specs.Terms.Object.{Object, NIL, same_object, has_members, is_member}
use Rattle.mw_model.specs.Terms.Term.{ArityTable}
use Rattle.mw_model.proofs.Names.{object_cases, same_object-from}
use Rattle.mw_heap.specs.Objects.{object_at, IsIn, AreDistinct}
use Rattle.mw_heap.specs.Lists.{list_object}
use Rattle.mw_rules.specs.declared.basis.Basis.{Basis}
use Rattle.mw_rules.specs.declared.method.Method.{Method}
use Rattle.mw_rules.specs.declared.method.Method.TheVariants.{Axiom, Theorem, PropositionalSchema, FunctionalEquality, BetaReduction, BaseEval, Expansion, Contraction, Associativity, Cut, Instantiation, Induction}
use Rattle.mw_rules.specs.Basis.{rule_holds_over}
use Rattle.mw_rules.specs.Methods.{method_of_logic}
use Rattle.mw_rules.specs.Counted.{most_subproofs}

same-references : (os : List Object) (x y : ℕ) → AreDistinct os → IsIn os x → IsIn os y → (x == y) ≡ same_object (object_at os x) (object_at os y)
same-references os x y d i j = go (cases_eq x y) (object_cases (object_at os x) (object_at os y))
  where
    go : (x ≡ y) ⊎ (x ≡ y → ⊥) → ((same_object (object_at os x) (object_at os y) ≡ true) × (object_at os x ≡ object_at os y)) ⊎ ((same_object (object_at os x) (object_at os y) ≡ false) × (object_at os x ≢ object_at os y)) → (x == y) ≡ same_object (object_at os x) (object_at os y)
    go (inl e) s = eq-eqb x y e ∙ sym (same_object-from (object_at os x) (object_at os y) (ap (object_at os) e))
    go (inr n) (inl p) = absurd (n (d x y i j p.1))
    go (inr n) (inr p) = ne_eqb x y n ∙ sym p.0

-- what is known, as references and as objects
pub known-member : (os : List Object) (k : List ℕ) (x : ℕ) → AreDistinct os → IsIn os x → All (IsIn os) k → list_any (λ y. x == y) k ≡ is_member (object_at os x) (list_object os k)
known-member os [] x d i h = refl
known-member os (y ∷ k) x d i h = ap₂ (λ a b. a || b) (same-references os x y d i (All-head (IsIn os) y k h)) (known-member os k x d i (All-tail (IsIn os) y k h))

-- a list does not have another number of members
other_count : (os : List Object) (n : ℕ) (rs : List ℕ) → (length rs ≡ n → ⊥) → has_members n (list_object os rs) ≡ false
other_count os zero [] h = absurd (h refl)
other_count os zero (r ∷ rs) h = refl
other_count os (suc n) [] h = refl
other_count os (suc n) (r ∷ rs) h = other_count os n rs (λ e. h (ap suc e))

refused : (b t u : Bool) → t ≡ false → false ≡ (b && (t && u))
refused true t u e = rw e refl
refused false t u e = refl

-- n is not the number of subproofs that a method takes
abbrev pub IsOther : Option ℕ → ℕ → Type 0
IsOther None n = ⊥
IsOther (Some most) n = n ≡ most → ⊥

module _ (os : List Object) (b : Basis) (A : ArityTable) (c : ℕ) (rs : List ℕ) (x : ℕ) where
  -- no row has the method with another number of subproofs
  no_row : (m : Method) → IsOther (most_subproofs (method_of_logic m)) (length rs) → false ≡ rule_holds_over os b A m c rs x
  no_row Axiom h = refused _ _ _ (other_count os 0 rs h)
  no_row Theorem h = refused _ _ _ (other_count os 0 rs h)
  no_row PropositionalSchema h = refused _ _ _ (other_count os 0 rs h)
  no_row FunctionalEquality h = refused _ _ _ (other_count os 0 rs h)
  no_row BetaReduction h = refused _ _ _ (other_count os 0 rs h)
  no_row BaseEval h = refused _ _ _ (other_count os 0 rs h)
  no_row Expansion h = refused _ _ _ (other_count os 1 rs h)
  no_row Contraction h = refused _ _ _ (other_count os 1 rs h)
  no_row Associativity h = refused _ _ _ (other_count os 1 rs h)
  no_row Cut h = refused _ _ _ (other_count os 2 rs h)
  no_row Instantiation h = refused true _ _ (other_count os 1 rs h)
  no_row Induction h = absurd h

  pub no_row-of : (m k : Method) → m ≡ k → IsOther (most_subproofs (method_of_logic k)) (length rs) → false ≡ rule_holds_over os b A m c rs x
  no_row-of m k e h = no_row k h ∙ ap (λ z. rule_holds_over os b A z c rs x) (sym e)

  -- nor with extras, but for the methods that take some
  pub no_row-extras : (m : Method) → (m ≡ Instantiation → ⊥) → (m ≡ Induction → ⊥) → same_object (object_at os x) NIL ≡ false → false ≡ rule_holds_over os b A m c rs x
  no_row-extras Instantiation i j nil = absurd (i refl)
  no_row-extras Induction i j nil = absurd (j refl)
  no_row-extras m i j nil = rw nil refl
