use Rattle.std.proofs.Common.{◌≡◌, ℕ, List, ◌++◌, map, take}
use Rattle.mw_model.specs.Texts.Written.{IsDatumLine}
use Rattle.mw_model.specs.Texts.Pieces.{InOrder}
use Rattle.mw_commands.specs.Commands.Slice.{event_at}
use Rattle.mw_slice.specs.Slices.{events_of}
use Rattle.mw_slice.proofs.kept.write_kept.Given as goal

abbrev pub invariant-loop-place : goal.invariant-loop-place
invariant-loop-place l = (body : List ℕ) × InOrder IsDatumLine (map (event_at (events_of l.slicer)) (take l.place-index l.places)) body × (l.lines.items ≡ l.fn.lines.items ++ body)
