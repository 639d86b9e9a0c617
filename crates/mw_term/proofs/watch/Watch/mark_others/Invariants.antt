-- The marks so far, and the notes of their cells.
use Rattle.std.proofs.Common.{◌≡◌, [], length}
use Rattle.mw_term.specs.Bodies.{AreBodies}
use Rattle.mw_term.specs.Watching.{mark_in}
use Rattle.mw_term.specs.Settling.{Waits, IsSettling}
use Rattle.mw_term.proofs.watch.Watch.mark_others.Given as goal

abbrev pub invariant-loop-i : goal.invariant-loop-i
invariant-loop-i l = record {
  reached : length l.cells.items ≡ l.i;
  size : length l.cells.items ≡ length l.self.lasting.items;
  settling : IsSettling l.arity l.heap.objects (mark_in l.cells.items) l.self (Waits l.self);
  none : l.self.waiting.keys ≡ [];
  bodies : AreBodies l.heap.objects l.bodies.found.entries;
}
