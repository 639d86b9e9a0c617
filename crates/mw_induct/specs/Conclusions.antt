-- Conclusions that are kept as references, and how many of them some premises take.
use Rattle.std.specs.Prelude.{◌≡◌, ℕ, ◌≤◌, false, List, [], ◌∷◌, length, drop, Option, Some, None}
use Rattle.mw_model.specs.Terms.Object.{Object, Pair, NIL, same_object}
use Rattle.mw_heap.specs.Objects.{object_at}

-- the list of the conclusions, as an object
abbrev pub conclusions_object : List Object → List ℕ → Object
conclusions_object os [] = NIL
conclusions_object os (x ∷ xs) = Pair (object_at os x) (conclusions_object os xs)

-- before any rest, the premises take just the first n conclusions, or no conclusions fit
abbrev pub Takes : (Object → Object) → List Object → List ℕ → Option ℕ → Type 0
Takes premises os xs None = (rest : Object) → same_object (conclusions_object os xs) (premises rest) ≡ false
Takes premises os xs (Some n) = (n ≤ length xs) × ((rest : Object) → same_object (conclusions_object os xs) (premises rest) ≡ same_object (conclusions_object os (drop n xs)) rest)
