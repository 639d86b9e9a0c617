-- What is collected from the places that are left, in front of those that were found.
use Rattle.std.proofs.Common.{◌≡◌, suc, [], reverse}
use Rattle.mw_commands.proofs.SlicePlaces.{changes, collected}
use Rattle.mw_slice.specs.Events.{objects_of}
use Rattle.mw_slice.proofs.picking.changing.Given as goal

abbrev pub invariant-loop-place : goal.invariant-loop-place
invariant-loop-place l =
    let es = objects_of l.heaps l.added in
    collected (changes es) l.place (reverse l.places.items) ≡ collected (changes es) (suc l.goal) []
