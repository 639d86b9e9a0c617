-- How much of names a primitive function looks at.
use Rattle.std.specs.Prelude.{ℕ, ◌/◌, min, List, [], ◌∷◌, length}
use Rattle.mw_model.specs.Terms.Object.{Object}
use Rattle.mw_model.specs.Values.Primitive.{name_of}
use Rattle.mw_heap.specs.declared.vocabulary.primitive.Primitive.{Primitive as Word}
use Rattle.mw_heap.specs.declared.vocabulary.primitive.Primitive.TheVariants as word

-- the full blocks of 16 bytes of the shorter name
abbrev pub blocks_of_two : List Object → ℕ
blocks_of_two (a ∷ b ∷ []) = min (length (name_of a).bytes) (length (name_of b).bytes) / 16
blocks_of_two vs = 0

abbrev pub blocks_of : Word → List Object → ℕ
blocks_of word.SymbolLess vs = blocks_of_two vs
blocks_of w vs = 0
