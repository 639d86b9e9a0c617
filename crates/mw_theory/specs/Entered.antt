-- The definitions that the entries of a theory are read as.
use Rattle.std.specs.Prelude.{ℕ, List, [], ◌∷◌, Option, Some, None}
use Rattle.mw_model.specs.Terms.Object.{Name, Object, NIL}
use Rattle.mw_model.specs.Terms.Term.{Term, Constant}
use Rattle.mw_model.specs.Terms.Reading.{names_of, term_of}
use Rattle.mw_model.specs.Values.Primitive.{name_of}
use Rattle.mw_model.specs.Values.Definition.{Function as Defined, Block, Functions, Choice}
use Rattle.mw_heap.specs.Objects.{object_at}
use Rattle.mw_preamble.specs.declared.definition.Definition.{Definition}
use Rattle.mw_preamble.specs.declared.definition.Definition.TheVariants.{Function, Witness}

abbrev pub names_or_none : Option (List Name) → List Name
names_or_none None = []
names_or_none (Some xs) = xs

abbrev pub term_or_nil : Option Term → Term
term_or_nil None = Constant NIL
term_or_nil (Some t) = t

abbrev pub function_read : List Object → (name formals body : ℕ) → Defined
function_read os name formals body = record { name = name_of (object_at os name); formals = names_or_none (names_of (object_at os formals)); body = term_or_nil (term_of (object_at os body)) }

abbrev pub functions_read : List Object → List Definition → List Defined
functions_read os [] = []
functions_read os (Function name formals body ∷ ds) = function_read os name formals body ∷ functions_read os ds
functions_read os (Witness name bound free body ∷ ds) = functions_read os ds

abbrev pub block_read : List Object → List Definition → Block
block_read os (Witness name bound free body ∷ []) = Choice (name_of (object_at os name)) (name_of (object_at os bound)) (names_or_none (names_of (object_at os free))) (term_or_nil (term_of (object_at os body)))
block_read os ds = Functions (functions_read os ds)

-- The entries stand oldest first, and the blocks newest first.
abbrev pub blocks_after : List Object → List Block → List (List Definition) → List Block
blocks_after os D [] = D
blocks_after os D (ds ∷ es) = blocks_after os (block_read os ds ∷ D) es

abbrev pub blocks_read : List Object → List (List Definition) → List Block
blocks_read os es = blocks_after os [] es
