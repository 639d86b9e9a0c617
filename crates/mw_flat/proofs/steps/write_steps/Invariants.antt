-- The steps so far are written.
use Rattle.std.proofs.Common.{◌≡◌, ℕ, List, ◌++◌, map, take}
use Rattle.mw_model.specs.Texts.Pieces.{InOrder, numbered}
use Rattle.mw_commands.specs.Commands.Flattening.{IsStepLine}
use Rattle.mw_heap.specs.Objects.{object_at}
use Rattle.mw_flat.proofs.steps.write_steps.Given as goal

abbrev pub invariant-loop-place : goal.invariant-loop-place
invariant-loop-place l = (text : List ℕ) × InOrder (IsStepLine (map (object_at l.heap.objects) l.complete.keys)) (numbered 1 (map (object_at l.heap.objects) (take l.place l.complete.keys))) text × (l.out.items ≡ l.fn.out.items ++ text)
