-- What callers use: growth keeps each object and each reference, and a cut to a mark gives the heap back.
use Rattle.std.proofs.Common.{◌≡◌, ℕ, ◌<◌, ◌≤◌, List, [], ◌++◌, length, take, drop, sym, ap, ap₂, ◌∙◌, subst, arith, length-append, append_assoc}
use Rattle.std.proofs.lemmas.List.{append-nil, get_or_append_left, get_or-take, take-append-drop, length-take-le}
use Rattle.std.proofs.Math.Seq.{take-append_seam}
use Rattle.mw_model.specs.Terms.Object.{Object, Pair, NIL}
use Rattle.mw_heap.specs.declared.store.view.View.{View}
use Rattle.mw_heap.specs.declared.store.view.View.TheVariants.{Nat, Symbol, Pair as Parts}
use Rattle.mw_heap.specs.Objects.{object_at, IsIn, Grows, Shows, AreDistinct}

-- growth of a heap from old to new
module _ (old new : List Object) (grows : Grows old new) where
  pub length-Grows : length old ≤ length new
  length-Grows = omega (arith, ap length grows.1, length-append old grows.0)

  pub IsIn-Grows : (r : ℕ) → IsIn old r → IsIn new r
  IsIn-Grows r h = omega (arith, h, length-Grows)

  pub object_at-Grows : (r : ℕ) → IsIn old r → object_at new r ≡ object_at old r
  object_at-Grows r h = ap (λ os. object_at os r) grows.1 ∙ get_or_append_left old grows.0 NIL r h

  pub Shows-Grows : (v : View) (x : Object) → Shows old v x → Shows new v x
  Shows-Grows (Nat n) x h = h
  Shows-Grows Symbol x h = h
  Shows-Grows (Parts a b) x h = (IsIn-Grows a h.0, IsIn-Grows b h.1, h.2 ∙ ap₂ Pair (sym (object_at-Grows a h.0)) (sym (object_at-Grows b h.1)))

  -- what was distinct in the larger heap is so in the smaller one
  pub AreDistinct-Grows : AreDistinct new → AreDistinct old
  AreDistinct-Grows h x y in_x in_y e = h x y (IsIn-Grows x in_x) (IsIn-Grows y in_y) (object_at-Grows x in_x ∙ (e ∙ sym (object_at-Grows y in_y)))

  -- the cut to the mark of the old heap gives it back
  pub take-Grows : take (length old) new ≡ old
  take-Grows = ap (take (length old)) grows.1 ∙ take-append_seam old grows.0

pub Grows-refl : (os : List Object) → Grows os os
Grows-refl os = ([], sym (append-nil os))

pub Grows-same : (old new : List Object) → new ≡ old → Grows old new
Grows-same old new e = subst (λ l. Grows old l) (sym e) (Grows-refl old)

pub Grows-trans : (a b c : List Object) → Grows a b → Grows b c → Grows a c
Grows-trans a b c f g = (f.0 ++ g.0, g.1 ∙ (ap (λ l. l ++ g.0) f.1 ∙ append_assoc a f.0 g.0))

-- a cut heap grows to the whole one, so that the lemmas above speak of a cut too
pub Grows-take : (n : ℕ) (os : List Object) → Grows (take n os) os
Grows-take n os = (drop n os, sym (take-append-drop n os))

-- what grew past a mark and is cut to it there has kept all before the mark
pub take-Grows-mark : (old new : List Object) (n : ℕ) → n ≡ length old → Grows old new → take n new ≡ old
take-Grows-mark old new n e g = ap (λ m. take m new) e ∙ take-Grows old new g

pub IsIn-take : (n : ℕ) (os : List Object) (r : ℕ) → r < n → n ≤ length os → IsIn (take n os) r
IsIn-take n os r h l = omega (arith, h, length-take-le n os l)

pub object_at-take : (n : ℕ) (os : List Object) (r : ℕ) → r < n → object_at (take n os) r ≡ object_at os r
object_at-take n os r h = get_or-take n os r NIL h
