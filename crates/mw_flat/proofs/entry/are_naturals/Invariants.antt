-- What is left of the list decides.
use Rattle.std.proofs.Common.{◌≡◌, is_some}
use Rattle.mw_commands.specs.Commands.Log.{naturals_of}
use Rattle.mw_heap.specs.Objects.{object_at, IsIn}
use Rattle.mw_flat.proofs.entry.are_naturals.Given as goal

abbrev pub invariant-loop-first : goal.invariant-loop-first
invariant-loop-first l =
    IsIn l.heap.objects l.rest × (is_some (naturals_of (object_at l.heap.objects l.fn.list)) ≡ is_some (naturals_of (object_at l.heap.objects l.rest)))

abbrev pub decreases-loop-first : goal.decreases-loop-first
decreases-loop-first l = l.rest
