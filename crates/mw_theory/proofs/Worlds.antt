-- A world whose heap was cut.
use Rattle.std.proofs.Common.{◌≡◌, ℕ, ◌<◌, ◌≤◌, max, List, length, take, sym, ap, ◌∙◌, subst, arith}
use Rattle.mw_model.specs.Terms.Object.{Object}
use Rattle.mw_heap.specs.Objects.{object_at, IsIn}
use Rattle.mw_heap.proofs.Objects.{IsIn-take, object_at-take}
use Rattle.mw_theory.specs.declared.world.World.{World}
use Rattle.mw_theory.specs.Worlds.{IsWorld}

-- the object at x stands before the cut
module _ (os old : List Object) (m : ℕ) (cut_is : os ≡ take m old) (within : m ≤ length old) (x : ℕ) (before : x < m) where
  pub in-cut : IsIn os x
  in-cut = subst (λ o. IsIn o x) (sym cut_is) (IsIn-take m old x before within)

  pub same-cut : object_at os x ≡ object_at old x
  same-cut = ap (λ o. object_at o x) cut_is ∙ object_at-take m old x before

-- a mark after what is there, and after what is needed, stands within the heap
pub mark-within : (w : World) → IsWorld w → (end later : ℕ) → later ≡ max end w.needed → end ≤ length w.heap.objects → later ≤ length w.heap.objects
mark-within w h end later later_is within = omega (arith, later_is, within, h.kept)
