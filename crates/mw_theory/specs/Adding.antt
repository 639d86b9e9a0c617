-- A block that is added to what is kept of a theory.
use Rattle.std.specs.Prelude.{◌≡◌, ℕ, true, List, [], ◌∷◌, ◌++◌, length, None}
use Rattle.mw_model.specs.Terms.Object.{Object}
use Rattle.mw_model.specs.Terms.Term.{ArityTable, arity_of}
use Rattle.mw_model.specs.Values.Primitive.{name_of}
use Rattle.mw_model.specs.Values.Definition.{Block, Definitions, definitions, arity_table, is_block}
use Rattle.mw_heap.specs.Objects.{object_at}
use Rattle.mw_term.specs.Parts.{formals_of}
use Rattle.mw_code.specs.declared.table.Table.{Table}
use Rattle.mw_code.specs.Tables.{StandsFor}
use Rattle.mw_preamble.specs.declared.definition.Definition.{Definition}
use Rattle.mw_preamble.specs.Defining.{spelling_of}
use Rattle.mw_preamble.specs.Entries.{IsBlock}
use Rattle.mw_theory.specs.Entered.{names_or_none}

-- how many formals a list of distinct variables has; none where an object is no such list
abbrev pub formal_count : Object → ℕ
formal_count x = length (names_or_none (formals_of x))

-- the name of a definition, and how many formals it has
abbrev pub pair_of : List Object → Definition → ℕ × ℕ
pair_of os d = ((spelling_of d).0, formal_count (object_at os (spelling_of d).1))

-- no name has an arity, from the table or from a pair before its own
abbrev pub AreNew : List Object → ArityTable → List (ℕ × ℕ) → Type 0
AreNew os A [] = Unit {0}
AreNew os A (p ∷ ps) = (arity_of A (name_of (object_at os p.0)) ≡ None) × AreNew os ((name_of (object_at os p.0), p.1) ∷ A) ps

-- the block in front of the others
abbrev pub with_block : Block → Definitions → Definitions
with_block B D = definitions D.profile (B ∷ D.blocks)

-- the table stands for the definitions, to which the block that these mean may be added
pub record MayBeAdded (os : List Object) (table : Table) (D : Definitions) (ds : List Definition) (B : Block) : Type 0 where
  pub stands : StandsFor os table D
  pub means : IsBlock os ds B
  pub made : is_block (arity_table D) B ≡ true

-- Of lists whose newest members come first, and last: what was there is there still.
abbrev pub EndsWith : {X : Type 0} → List X → List X → Type 0
EndsWith {X} new old = (more : List X) × (new ≡ more ++ old)

abbrev pub BeginsWith : {X : Type 0} → List X → List X → Type 0
BeginsWith {X} new old = (more : List X) × (new ≡ old ++ more)
