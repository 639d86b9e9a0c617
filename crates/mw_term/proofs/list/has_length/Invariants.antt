-- The members so far, and those of the rest.
use Rattle.std.proofs.Common.{◌≡◌, ◌+◌}
use Rattle.mw_heap.specs.Objects.{object_at, IsIn}
use Rattle.mw_term.specs.Parts.{length_of}
use Rattle.mw_term.proofs.list.has_length.Given as goal

abbrev pub invariant-loop : goal.invariant-loop
invariant-loop l = IsIn l.heap.objects l.rest × (length_of (object_at l.heap.objects l.fn.list) ≡ l.counter + length_of (object_at l.heap.objects l.rest))
