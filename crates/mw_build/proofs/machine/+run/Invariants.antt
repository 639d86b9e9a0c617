-- A rule is applied one deeper than the pieces that use it; the pieces that are left do to the stack what all of them do to the first one.
use Rattle.std.proofs.Common.{◌≡◌, ◌+◌, ◌*◌, drop, map}
use Rattle.mw_heap.specs.Objects.{object_at, Grows}
use Rattle.mw_build.specs.Pieces.{run}
use Rattle.mw_build.specs.Rules.{made_by}
use Rattle.mw_build.specs.Stacks.{stack_of, AreIn}
use Rattle.mw_build.proofs.machine.+run.Given as goal

abbrev pub decreases-apply : goal.decreases-apply
decreases-apply l = 4 * l.depth

abbrev pub decreases-make_piece : goal.decreases-make_piece
decreases-make_piece l = 4 * l.depth + 1

abbrev pub decreases-take_step : goal.decreases-take_step
decreases-take_step l = 4 * l.depth + 2

abbrev pub decreases-run : goal.decreases-run
decreases-run l = 4 * l.depth + 3

abbrev pub invariant-run-loop-piece : goal.invariant-run-loop-piece
invariant-run-loop-piece l = record {
  within : AreIn l.heap.objects l.stack.items;
  given : map (object_at l.heap.objects) l.given ≡ map (object_at l.fn.heap.objects) l.given;
  given_in : AreIn l.heap.objects l.given;
  grows : Grows l.fn.heap.objects l.heap.objects;
  made : run (made_by (map (λ x. x.now) l.rules) l.depth) (map (object_at l.fn.heap.objects) l.given) (stack_of l.heap.objects l.stack.items) (drop l.piece-index l.pieces)
      ≡ run (made_by (map (λ x. x.now) l.rules) l.depth) (map (object_at l.fn.heap.objects) l.given) (stack_of l.fn.heap.objects l.fn.stack.items) l.pieces;
}
