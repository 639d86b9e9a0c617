-- The lists have as many members as their rests have.
use Rattle.std.proofs.Common.{◌≡◌, eqb}
use Rattle.mw_heap.specs.Objects.{object_at, IsIn}
use Rattle.mw_term.specs.Parts.{length_of}
use Rattle.mw_term.proofs.list.are_as_long.Given as goal

abbrev pub invariant-loop-more : goal.invariant-loop-more
invariant-loop-more l =
    IsIn l.heap.objects l.rest
    × IsIn l.heap.objects l.others
    × (eqb (length_of (object_at l.heap.objects l.fn.first)) (length_of (object_at l.heap.objects l.fn.second)) ≡ eqb (length_of (object_at l.heap.objects l.rest)) (length_of (object_at l.heap.objects l.others)))

abbrev pub decreases-loop-more : goal.decreases-loop-more
decreases-loop-more l = l.rest
