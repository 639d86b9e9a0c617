-- Where a layer may lie: on frames, or in a list.
use Rattle.std.proofs.Common.{ℕ, List, ◌∷◌}
use Rattle.mw_model.specs.Terms.Object.{Object}
use Rattle.mw_read.specs.Machine.{Frame, Members}
use Rattle.mw_read.specs.Piles.{Pile, Frames, MayLie}
use Rattle.mw_read.specs.declared.stack.Layer.{Layer}
use Rattle.mw_read.specs.declared.stack.Layer.TheVariants as layers

-- what holds at each of these places holds wherever a layer lies
pub each_place : (P : Pile → Layer → Type 0) →
    ((s : List Frame) → P (Frames s) layers.Opening) → ((s : List Frame) → P (Frames s) layers.Quote) → ((n : ℕ) (s : List Frame) → P (Frames s) (layers.Mark n)) →
    ((r : ℕ) (xs : List Object) (s : List Frame) → P (Frames (Members xs ∷ s)) (layers.Item r)) →
    ((x : Object) (xs : List Object) (s : List Frame) → P (Frames (Members (x ∷ xs) ∷ s)) layers.Dot) →
    ((r : ℕ) (x : Object) (xs : List Object) (s : List Frame) → P (Frames (Members (x ∷ xs) ∷ s)) (layers.Last r)) →
    (t : Pile) (l : Layer) → MayLie t l → P t l
each_place P a b c d e f (Frames s) layers.Opening h = a s
each_place P a b c d e f (Frames s) layers.Quote h = b s
each_place P a b c d e f (Frames s) (layers.Mark n) h = c n s
each_place P a b c d e f (Frames (Members xs ∷ s)) (layers.Item r) h = d r xs s
each_place P a b c d e f (Frames (Members (x ∷ xs) ∷ s)) layers.Dot h = e x xs s
each_place P a b c d e f (Frames (Members (x ∷ xs) ∷ s)) (layers.Last r) h = f r x xs s
each_place P a b c d e f t l h = absurd h
