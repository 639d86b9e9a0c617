-- What is asked of a new block of functions before it is admitted.
use Rattle.std.specs.Prelude.{◌≡◌, true, false, List, ◌∷◌}
use Rattle.mw_model.specs.Terms.Term.{IsTerm, is_closed}
use Rattle.mw_model.specs.Values.Definition.{Function, Block, Functions, Definitions, definitions, arity_table, IsWellMade}
use Rattle.mw_model.specs.Values.Value.{IsTotal}
use Rattle.mw_model.specs.Values.Truth.{Each, AreTrueIn}
use Rattle.mw_model.specs.Events.Obligation.{Measures, measure_of, is_nested, obligations}
use Rattle.mw_model.specs.BuiltIns.BuiltIn.{built_in}
use Rattle.mw_model.specs.Events.Theory.{BeginsWith}

-- the definitions and one newer block
abbrev pub with_block : Definitions → Block → Definitions
with_block D B = definitions D.profile (B ∷ D.blocks)

-- The tests of a definition, and that what it owes is true.
pub record IsAdmissible (D : Definitions) (B : List Function) (M : Measures) : Type 0 where
  pub made : IsWellMade (with_block D (Functions B))
  pub begun : BeginsWith (built_in D.profile) D.blocks
  pub total : IsTotal D
  -- the measures are terms of the older definitions, in the formals
  pub measured : Each (λ h. IsTerm (arity_table D) (measure_of M h.name) × (is_closed h.formals (measure_of M h.name) ≡ true)) B
  pub flat : is_nested B B ≡ false
  pub owed : AreTrueIn D (obligations B M)
