-- What is defined next: one function or one witness, after the blocks that are there.
use Rattle.std.specs.Prelude.{◌≡◌, ℕ, List, [], ◌∷◌, true, Option, Some, None}
use Rattle.mw_model.specs.Terms.Object.{Object}
use Rattle.mw_model.specs.Values.Primitive.{Profile}
use Rattle.mw_model.specs.Values.Definition.{Block, arities, is_block}
use Rattle.mw_heap.specs.Objects.{object_at}
use Rattle.mw_preamble.specs.declared.definition.Definition.{Definition}
use Rattle.mw_preamble.specs.declared.definition.Definition.TheVariants.{Function, Witness}
use Rattle.mw_preamble.specs.Entries.{IsBlock}
use Rattle.mw_preamble.specs.Rows.{IsRowOf}

-- the name, the formals, and the body that has code
abbrev pub spelling_of : Definition → ℕ × ℕ × Option ℕ
spelling_of (Function name formals body) = (name, formals, Some body)
spelling_of (Witness name bound free body) = (name, free, None)

-- the definition is that of a block that is well made after the others
pub record IsNext (os : List Object) (P : Profile) (D : List Block) (B : Block) (d : Definition) : Type 0 where
  pub means : IsBlock os (d ∷ []) B
  pub made : is_block (arities P D) B ≡ true

-- the row is that of a block that is well made after the others
pub record IsNextRow (os : List Object) (P : Profile) (D : List Block) (B : Block) (row : ℕ) : Type 0 where
  pub row_is : IsRowOf B (object_at os row)
  pub made : is_block (arities P D) B ≡ true
