-- The slice of the target.
use Rattle.std.proofs.Common.{sym, subst}
use Rattle.mw_commands.specs.Commands.Slice.{IsSlice}
use Rattle.mw_commands.proofs.SlicePlaces.{slice_exists}
use Rattle.mw_slice.specs.Events.{objects_of}
use Rattle.mw_slice.proofs.picking.pick.Goals as goal

pub returns-in_ok-slice-in-Some : goal.returns-in_ok-slice-in-Some
returns-in_ok-slice-in-Some c =
    let es = objects_of c.args.heaps.now c.args.added.now in
    (c.in-Some.goal, sym c.in-Some.ensures.target, subst (IsSlice es c.in-Some.goal) (sym c.in_ok-slice-in-Some.ensures) (slice_exists es c.in-Some.goal))
