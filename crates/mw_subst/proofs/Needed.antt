-- What a part needs: the parts of a pair, and the same as the heap grows.
use Rattle.std.proofs.Common.{◌≡◌, ℕ, List, Some, sym, ap, ◌∙◌}
use Rattle.mw_model.specs.Terms.Object.{Object, Pair}
use Rattle.mw_heap.specs.Objects.{object_at, IsIn, Grows, AreDistinct}
use Rattle.mw_heap.proofs.Objects.{object_at-Grows, IsIn-Grows}
use Rattle.mw_subst.specs.declared.part.Part.{Part}
use Rattle.mw_subst.specs.declared.part.Part.TheVariants.{Term, Terms}
use Rattle.mw_subst.specs.Memo.{cell_of, found, IsFound}
use Rattle.mw_subst.specs.Reached.{Needs}

-- what a pair needs was found
module _ (os : List Object) (distinct : AreDistinct os) (terms lists : List (ℕ × ℕ)) (x a b : ℕ) (a_in : IsIn os a) (b_in : IsIn os b) (pair : object_at os x ≡ Pair (object_at os a) (object_at os b)) where
  is_first : (y : ℕ) (r : Object) → IsIn os y → object_at os x ≡ Pair (object_at os y) r → y ≡ a
  is_first y r i e = let s : object_at os y ≡ object_at os a = cc in distinct y a i a_in s

  is_second : (y : ℕ) (h : Object) → IsIn os y → object_at os x ≡ Pair h (object_at os y) → y ≡ b
  is_second y h i e = let s : object_at os y ≡ object_at os b = cc in distinct y b i b_in s

  pub call-needs : (r : ℕ) → found terms lists (Terms b) ≡ Some r → (q : Part) → Needs os (Term x) q → IsFound terms lists q
  call-needs r k (Term y) n = absurd n
  call-needs r k (Terms y) n = (r, ap (λ z. found terms lists (Terms z)) (is_second y n.1 n.0 n.2) ∙ k)

  pub list-needs : (r s : ℕ) → found terms lists (Term a) ≡ Some r → found terms lists (Terms b) ≡ Some s → (q : Part) → Needs os (Terms x) q → IsFound terms lists q
  list-needs r s k m (Term y) n = (r, ap (λ z. found terms lists (Term z)) (is_first y n.1 n.0 n.2) ∙ k)
  list-needs r s k m (Terms y) n = (s, ap (λ z. found terms lists (Terms z)) (is_second y n.1 n.0 n.2) ∙ m)

-- a part needs the same as the heap grows
module _ (old new : List Object) (g : Grows old new) where
  pub Needs-Grows : (p q : Part) → IsIn old (cell_of p) → Needs old p q → Needs new p q
  Needs-Grows (Term x) (Term y) i n = n
  Needs-Grows (Term x) (Terms y) i n = (IsIn-Grows old new g y n.0, n.1, object_at-Grows old new g x i ∙ (n.2 ∙ ap (Pair n.1) (sym (object_at-Grows old new g y n.0))), n.3)
  Needs-Grows (Terms x) (Term y) i n = (IsIn-Grows old new g y n.0, n.1, object_at-Grows old new g x i ∙ (n.2 ∙ ap (λ z. Pair z n.1) (sym (object_at-Grows old new g y n.0))))
  Needs-Grows (Terms x) (Terms y) i n = (IsIn-Grows old new g y n.0, n.1, object_at-Grows old new g x i ∙ (n.2 ∙ ap (Pair n.1) (sym (object_at-Grows old new g y n.0))))

  -- as in the heap before it grew
  pub Needs-older : (p q : Part) → IsIn old (cell_of p) → IsIn old (cell_of q) → Needs new p q → Needs old p q
  Needs-older (Term x) (Term y) i j n = n
  Needs-older (Term x) (Terms y) i j n = (j, n.1, sym (object_at-Grows old new g x i) ∙ (n.2 ∙ ap (Pair n.1) (object_at-Grows old new g y j)), n.3)
  Needs-older (Terms x) (Term y) i j n = (j, n.1, sym (object_at-Grows old new g x i) ∙ (n.2 ∙ ap (λ z. Pair z n.1) (object_at-Grows old new g y j)))
  Needs-older (Terms x) (Terms y) i j n = (j, n.1, sym (object_at-Grows old new g x i) ∙ (n.2 ∙ ap (Pair n.1) (object_at-Grows old new g y j)))
