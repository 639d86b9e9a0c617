-- From the data of the built-in text to blocks, the oldest first.
use Rattle.std.specs.Prelude.{List, [], ◌∷◌, Option, Some, None}
use Rattle.mw_model.specs.Terms.Object.{Name, Object, Symbol, Pair}
use Rattle.mw_model.specs.Terms.Term.{Term}
use Rattle.mw_model.specs.Terms.Reading.{names_of, and_more}
use Rattle.mw_model.specs.Values.Definition.{Block, Functions, Choice}
use Rattle.mw_model.specs.Events.Expansion.{expanded}

abbrev pub block_of_function : Name → Option (List Name) → Option Term → Option Block
block_of_function f (Some xs) (Some b) = Some (Functions (record { name = f; formals = xs; body = b } ∷ []))
block_of_function f _ _ = None

abbrev pub block_of_witness : Name → Name → Option (List Name) → Option Term → Option Block
block_of_witness g y (Some xs) (Some b) = Some (Choice g y xs b)
block_of_witness g y _ _ = None

-- A function is a name, a list of formals and a body, a witness two names, a list of names and a body. Bodies are expanded.
abbrev pub blocks_of : List Object → Option (List Block)
blocks_of [] = Some []
blocks_of (Symbol g ∷ Symbol y ∷ xs ∷ b ∷ r) = and_more (block_of_witness g y (names_of xs) (expanded b)) (blocks_of r)
blocks_of (Symbol f ∷ Pair x xs ∷ b ∷ r) = and_more (block_of_function f (names_of (Pair x xs)) (expanded b)) (blocks_of r)
blocks_of _ = None
