-- What an event is rewritten and explained over, and what stays of it.
use Rattle.std.specs.Prelude.{List}
use Rattle.mw_model.specs.Terms.Object.{Object}
use Rattle.mw_model.specs.Terms.Term.{ArityTable}
use Rattle.mw_heap.specs.Objects.{Grows}
use Rattle.mw_term.specs.Marking.{ObjectMark, AreMarks}
use Rattle.mw_theory.specs.declared.theory.Theory.{Theory}
use Rattle.mw_theory.specs.Knowledge.{IsHeld}

-- the theory is in the heap, and the marks are under its arity table
pub record Stands (os : List Object) (t : Theory) (marks : List ObjectMark) : Type 0 where
  pub held : IsHeld os t
  pub marked : AreMarks t.arity os marks

-- the heap grew, and the marks are under the table still
pub record Keeps (A : ArityTable) (old new : List Object) (marks : List ObjectMark) : Type 0 where
  pub grows : Grows old new
  pub marked : AreMarks A new marks
