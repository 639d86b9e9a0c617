-- The marks and the bodies so far.
use Rattle.std.proofs.Common.{◌≡◌, length, take}
use Rattle.mw_term.specs.Marking.{AreMarks}
use Rattle.mw_term.specs.Bodies.{AreBodies}
use Rattle.mw_term.proofs.marks.mark_up_to.Given as goal

abbrev pub invariant-loop-i : goal.invariant-loop-i
invariant-loop-i l = record {
  marked : AreMarks l.arity l.heap.objects l.cells.items;
  reached : length l.cells.items ≡ l.i;
  kept : take (length l.initial.cells.items) l.cells.items ≡ l.initial.cells.items;
  bodies : AreBodies l.heap.objects l.bodies.found.entries;
}
