-- The state after each step.
use Rattle.std.proofs.Common.{◌≡◌, length}
use Rattle.mw_term.specs.Bodies.{AreBodies}
use Rattle.mw_term.specs.Watching.{mark_in}
use Rattle.mw_term.specs.Settling.{Waits, IsSettling}
use Rattle.mw_term.proofs.watch.Watch.mark_waiting.Given as goal

abbrev pub invariant-loop : goal.invariant-loop
invariant-loop l = record {
  size : length l.cells.items ≡ length l.self.lasting.items;
  settling : IsSettling l.arity l.heap.objects (mark_in l.cells.items) l.self (Waits l.self);
  bodies : AreBodies l.heap.objects l.bodies.found.entries;
}
