-- None of the events before this one is a theorem of this name.
use Rattle.std.proofs.Common.{◌≡◌, take, None}
use Rattle.mw_model.specs.Terms.Object.{name_of_bytes}
use Rattle.mw_commands.specs.Commands.Slice.{target}
use Rattle.mw_slice.specs.Events.{objects_of}
use Rattle.mw_slice.proofs.picking.target.Given as goal

abbrev pub invariant-loop-place : goal.invariant-loop-place
invariant-loop-place l = target (objects_of l.heaps (take l.place l.added)) (name_of_bytes l.name) ≡ None
