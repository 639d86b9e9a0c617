-- Events with numbers in place of their proofs, as they are made.
use Rattle.std.specs.Prelude.{◌≡◌, ℕ, List, [], ◌∷◌, ◌++◌}
use Rattle.mw_model.specs.Terms.Object.{Object, Natural, Pair, NIL}
use Rattle.mw_model.specs.Texts.Written.{IsDatumLine}
use Rattle.mw_commands.specs.Commands.Flattening.{StepsWritten}
use Rattle.mw_heap.specs.Objects.{object_at}

-- the list of these numbers
abbrev pub numbers_object : List ℕ → Object
numbers_object [] = NIL
numbers_object (n ∷ ns) = Pair (Natural n) (numbers_object ns)

-- the objects of these references, and then the rest
abbrev pub put_before : List Object → List ℕ → Object → Object
put_before os [] rest = rest
put_before os (x ∷ xs) rest = Pair (object_at os x) (put_before os xs rest)

-- the steps of these proofs, and then the datum x on a line
abbrev pub WritesFlat : Object → Object → List ℕ → Type 0
WritesFlat ps x piece = (steps line : List ℕ) × (piece ≡ steps ++ line) × StepsWritten ps steps × IsDatumLine x line
