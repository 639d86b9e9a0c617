-- Parts of an event, each by its cell, and what of an event is in a part.
use Rattle.std.specs.Prelude.{ℕ, eqb, Bool, false, List, [], map, filter}
use Rattle.mw_model.specs.Terms.Object.{Object, second_of}
use Rattle.mw_commands.specs.Commands.Slice.{begins_with, occurs}
use Rattle.mw_commands.specs.Commands.Subproofs.{proofs_within, each_within}
use Rattle.mw_heap.specs.Objects.{object_at}
use Rattle.mw_slice.specs.declared.part.Part.{Part}
use Rattle.mw_slice.specs.declared.part.Part.TheVariants.{Cell, Proof, Proofs}

abbrev pub cell_of : Part → ℕ
cell_of (Cell x) = x
cell_of (Proof x) = x
cell_of (Proofs x) = x

abbrev pub same_part : Part → Part → Bool
same_part (Cell x) (Cell y) = eqb x y
same_part (Proof x) (Proof y) = eqb x y
same_part (Proofs x) (Proofs y) = eqb x y
same_part (Cell x) (Proof y) = false
same_part (Cell x) (Proofs y) = false
same_part (Proof x) (Cell y) = false
same_part (Proof x) (Proofs y) = false
same_part (Proofs x) (Cell y) = false
same_part (Proofs x) (Proof y) = false

module _ (os : List Object) where
  -- an atom occurs in a cell; in a proof nothing but its steps counts
  abbrev pub occurs_in : Object → Part → Bool
  occurs_in x (Cell r) = occurs x (object_at os r)
  occurs_in x (Proof r) = false
  occurs_in x (Proofs r) = false

  -- the proofs that a proof, or each of a list, is made of
  abbrev pub steps_in : Part → List Object
  steps_in (Cell r) = []
  steps_in (Proof r) = proofs_within (object_at os r)
  steps_in (Proofs r) = each_within (object_at os r)

  -- what the steps by THEOREM among them name
  abbrev pub theorems_in : Part → List Object
  theorems_in p = map second_of (filter (begins_with "THEOREM") (steps_in p))
