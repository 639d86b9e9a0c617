-- What the built-in definitions of a profile bring to a theory.
use Rattle.std.specs.Prelude.{List, [], ◌∷◌, ◌++◌}
use Rattle.mw_model.specs.Terms.Term.{Formula}
use Rattle.mw_model.specs.Values.Primitive.{Profile, One}
use Rattle.mw_model.specs.Values.Definition.{Block, Definitions, block_axioms}
use Rattle.mw_model.specs.BuiltIns.BuiltIn.{built_in_definitions}

-- They are long: a proof opens them by name alone.
unfoldable pub definitions_of : Profile → Definitions
definitions_of P = built_in_definitions P

abbrev pub first_definitions : Definitions
first_definitions = definitions_of One

-- the axioms of the blocks, those of the oldest first
abbrev pub axioms_in_order : List Block → List Formula
axioms_in_order [] = []
axioms_in_order (B ∷ D) = axioms_in_order D ++ block_axioms B
