-- A block of definitions that an event adds.
use Rattle.std.specs.Prelude.{◌≡◌, ℕ, List}
use Rattle.mw_model.specs.Terms.Object.{Object}
use Rattle.mw_model.specs.Values.Definition.{Block, Definitions, block_axioms}
use Rattle.mw_model.specs.Events.Theory.{IsSound}
use Rattle.mw_model.specs.Laws.RulesInduction.{formulas_object}
use Rattle.mw_model.specs.Events.Admission.{add_to_theory}
use Rattle.mw_heap.specs.Objects.{object_at, IsIn}
use Rattle.mw_code.specs.Tables.{StandsFor}
use Rattle.mw_preamble.specs.declared.definition.Definition.{Definition}
use Rattle.mw_preamble.specs.Entries.{IsBlock}
use Rattle.mw_theory.specs.declared.theory.Theory.{Theory as Kept}
use Rattle.mw_theory.specs.declared.world.World.{World}
use Rattle.mw_theory.specs.Knowledge.{Parts, parts_of, meant}

-- the definitions mean the block, the list is that of its axioms, and the theory with it is sound
pub record IsNewBlock (os : List Object) (p : Parts) (ds : List Definition) (axioms : ℕ) (B : Block) : Type 0 where
  pub means : IsBlock os ds B
  pub axioms_in : IsIn os axioms
  pub axioms_are : object_at os axioms ≡ formulas_object (block_axioms B)
  pub sound : IsSound (add_to_theory (meant os p) B)

-- the code alone is another, and it stands for all that the old one stood for
pub record HasOtherCode (old new : Kept) : Type 0 where
  pub rest : new ≡ record old { table = new.table }
  pub stands : (os : List Object) (D : Definitions) → StandsFor os old.table.value D → StandsFor os new.table.value D

-- the same of a world
abbrev pub IsNewBlockIn : World → List Definition → ℕ → Block → Type 0
IsNewBlockIn w ds axioms B = IsNewBlock w.heap.objects (parts_of w.theory) ds axioms B
