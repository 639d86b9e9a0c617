-- What the decision on a formula has to be, and its table.
use Rattle.std.specs.Prelude.{◌≡◌, List, [], Some, map, slice_get}
use Rattle.mw_model.specs.Terms.Object.{Object}
use Rattle.mw_model.specs.Terms.Term.{Formula, formula_object, ArityTable}
use Rattle.mw_commands.specs.Commands.Tautology.{equations, choice_object, Decision as Expected, Many as ManyExpected, FailsUnder, Holds}
use Rattle.mw_commands.specs.Commands.TautologyBook.{IsPureProof}
use Rattle.mw_heap.specs.Objects.{object_at, IsIn}
use Rattle.mw_taut.specs.declared.table.Table.{Table}
use Rattle.mw_taut.specs.declared.deciding.Decision.{Decision}
use Rattle.mw_taut.specs.declared.deciding.Decision.TheVariants.{Proof, Choice, Many, Memory}
use Rattle.mw_taut.specs.Meaning.{AreNodesOf}
use Rattle.mw_taut.specs.Cases.{IsTableIn}

-- the table is that of the formula
pub record IsTableOf (os : List Object) (F : Formula) (t : Table) : Type 0 where
  pub parts : List Formula
  pub nodes : AreNodesOf (equations F) [] t.nodes.items parts
  pub root : slice_get parts t.root ≡ Some F
  pub formulas : map (object_at os) t.formulas.items ≡ map formula_object parts
  pub equations_are : map (object_at os) t.equations.items ≡ map formula_object (equations F)
  pub inside : IsTableIn os t

-- the answer is the expected decision for the formula, or out of memory
abbrev pub IsDecision : List Object → ArityTable → Formula → Expected → Decision → Type 0
IsDecision os A F expected Memory = Unit {0}
IsDecision os A F ManyExpected Many = Unit {0}
IsDecision os A F ManyExpected (Proof r) = ⊥
IsDecision os A F ManyExpected (Choice r) = ⊥
IsDecision os A F (FailsUnder c) Many = ⊥
IsDecision os A F (FailsUnder c) (Proof r) = ⊥
IsDecision os A F (FailsUnder c) (Choice r) = IsIn os r × (object_at os r ≡ choice_object c)
IsDecision os A F Holds Many = ⊥
IsDecision os A F Holds (Proof r) = IsIn os r × IsPureProof A (object_at os r) F
IsDecision os A F Holds (Choice r) = ⊥
