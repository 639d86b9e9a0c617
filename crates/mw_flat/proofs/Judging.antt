-- A judge by numbers stays the same as the heap grows.
use Rattle.std.proofs.Common.{◌≡◌, ℕ, cond, List, All, Option, Some, None, refl, sym, ap}
use Rattle.mw_model.specs.Terms.Object.{Object, Natural, Symbol, Pair, same_object}
use Rattle.mw_model.specs.Events.Refusal.{PROOF}
use Rattle.mw_heap.specs.Objects.{IsIn, Grows}
use Rattle.mw_heap.proofs.Objects.{object_at-Grows}
use Rattle.mw_flat.specs.Collecting.{conclusion_numbered, is_concluded, by_number}
use Rattle.mw_flat.proofs.ByNumber.{numbered-All}

module _ (old new : List Object) (grows : Grows old new) (rs : List ℕ) (all : All (IsIn old) rs) (formula : Object) where
  concluded-grows : (n : ℕ) (o : Option ℕ) → conclusion_numbered rs n ≡ o → is_concluded new o formula ≡ is_concluded old o formula
  concluded-grows n None e = refl
  concluded-grows n (Some r) e = ap (λ x. same_object x formula) (object_at-Grows old new grows r (numbered-All (IsIn old) rs n r all (sym e)))

  pub by_number-grows : (proof : Object) → by_number new rs formula proof ≡ by_number old rs formula proof
  by_number-grows (Natural n) = ap (λ b. cond b None (Some PROOF)) (concluded-grows n (conclusion_numbered rs n) refl)
  by_number-grows (Symbol s) = refl
  by_number-grows (Pair a b) = refl
