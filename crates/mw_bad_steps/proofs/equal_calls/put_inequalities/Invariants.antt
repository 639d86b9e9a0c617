-- The inequalities so far, and those of the rest.
use Rattle.std.proofs.Common.{◌≡◌, ◌++◌, map, All}
use Rattle.mw_heap.specs.Objects.{object_at, IsIn, Grows}
use Rattle.mw_bad_steps.specs.Candidates.{inequalities_in}
use Rattle.mw_bad_steps.proofs.equal_calls.put_inequalities.Given as goal

abbrev pub invariant-loop-a : goal.invariant-loop-a
invariant-loop-a l = record {
  grows : Grows l.fn.heap.objects l.heap.objects;
  firsts_in : IsIn l.fn.heap.objects l.firsts;
  seconds_in : IsIn l.fn.heap.objects l.seconds;
  within : All (IsIn l.heap.objects) l.members.items;
  same : map (object_at l.heap.objects) l.members.items ++ inequalities_in (object_at l.fn.heap.objects l.firsts) (object_at l.fn.heap.objects l.seconds) ≡ map (object_at l.fn.heap.objects) l.fn.members.items ++ inequalities_in (object_at l.fn.heap.objects l.fn.firsts) (object_at l.fn.heap.objects l.fn.seconds);
}

abbrev pub decreases-loop-a : goal.decreases-loop-a
decreases-loop-a l = l.firsts
