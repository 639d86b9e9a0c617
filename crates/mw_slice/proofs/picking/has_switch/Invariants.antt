-- None of the events before this one is a switch.
use Rattle.std.proofs.Common.{◌≡◌, take, false}
use Rattle.mw_commands.specs.Commands.Slice.{begins_with, some_passes}
use Rattle.mw_slice.specs.Events.{objects_of}
use Rattle.mw_slice.proofs.picking.has_switch.Given as goal

abbrev pub invariant-loop-event : goal.invariant-loop-event
invariant-loop-event l = some_passes (begins_with "SWITCH") (objects_of l.heaps (take l.event-index l.added)) ≡ false
