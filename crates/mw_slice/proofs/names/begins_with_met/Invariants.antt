-- No member before the rest of the list begins with a name that was met.
use Rattle.std.proofs.Common.{◌≡◌}
use Rattle.mw_commands.specs.Commands.Slice.{some_passes, first_members}
use Rattle.mw_heap.specs.Objects.{object_at, IsIn, Grows}
use Rattle.mw_slice.specs.Supports.{Named, notes}
use Rattle.mw_slice.proofs.names.begins_with_met.Given as goal

abbrev pub invariant-loop-member : goal.invariant-loop-member
invariant-loop-member l =
    IsIn l.from.objects l.list
    × Grows l.fn.to.objects l.to.objects
    × (some_passes (λ f. notes l.to.objects l.basis (Named f)) (first_members (object_at l.from.objects l.list)) ≡ some_passes (λ f. notes l.to.objects l.basis (Named f)) (first_members (object_at l.from.objects l.fn.list)))

abbrev pub decreases-loop-member : goal.decreases-loop-member
decreases-loop-member l = l.list
