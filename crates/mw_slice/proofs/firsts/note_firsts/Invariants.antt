-- The places of the formulas of the events before this one, in a heap that grows.
use Rattle.std.proofs.Common.{◌≡◌, take}
use Rattle.mw_model.specs.Terms.Object.{Object}
use Rattle.mw_commands.specs.Commands.Slice.{first_proof}
use Rattle.mw_heap.specs.Objects.{Grows}
use Rattle.mw_slice.specs.Events.{objects_of}
use Rattle.mw_slice.specs.Firsts.{AreFirsts, first_by}
use Rattle.mw_slice.proofs.firsts.note_firsts.Given as goal

abbrev pub invariant-loop-place : goal.invariant-loop-place
invariant-loop-place l =
    Grows l.fn.to.objects l.to.objects
    × AreFirsts l.to.objects l.firsts.entries
    × ((c : Object) → first_by l.to.objects l.firsts.entries c ≡ first_proof (objects_of l.heaps (take l.place l.added)) c)
