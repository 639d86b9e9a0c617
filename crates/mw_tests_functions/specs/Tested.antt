-- Terms over the primitive functions alone.
use Rattle.std.specs.Prelude.{ℕ, List, []}
use Rattle.mw_model.specs.Terms.Object.{Object}
use Rattle.mw_model.specs.Terms.Term.{Term}
use Rattle.mw_model.specs.Values.Primitive.{Two}
use Rattle.mw_model.specs.Values.Definition.{Definitions, definitions}
use Rattle.mw_code.specs.declared.table.Table.{Table}
use Rattle.mw_code.specs.Tables.{StandsFor, IsClosedTerm}

abbrev pub no_functions : Definitions
no_functions = definitions Two []

-- the reference of a term without variables
abbrev pub IsSomeTerm : List Object → ℕ → Type 0
IsSomeTerm os x = (t : Term) × IsClosedTerm no_functions os x t

-- a table without functions
abbrev pub IsPlain : List Object → Table → Type 0
IsPlain os t = StandsFor os t no_functions
