-- The conclusions so far, and those of the rest.
use Rattle.std.proofs.Common.{◌≡◌, ◌++◌, map, All}
use Rattle.mw_heap.specs.Objects.{object_at, IsIn}
use Rattle.mw_bad_steps.specs.Members.{conclusions_in}
use Rattle.mw_bad_steps.proofs.conclusions.seconds_of.Given as goal

abbrev pub invariant-loop-p : goal.invariant-loop-p
invariant-loop-p l = record {
  rest : IsIn l.fn.heap.objects l.rest;
  within : All (IsIn l.fn.heap.objects) l.seconds.items;
  same : map (object_at l.fn.heap.objects) l.seconds.items ++ conclusions_in (object_at l.fn.heap.objects l.rest) ≡ conclusions_in (object_at l.fn.heap.objects l.fn.list);
}

abbrev pub decreases-loop-p : goal.decreases-loop-p
decreases-loop-p l = l.rest
