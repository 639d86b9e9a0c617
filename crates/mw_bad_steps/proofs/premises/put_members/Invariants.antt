-- The members so far, and those of the rest.
use Rattle.std.proofs.Common.{◌≡◌, ◌++◌, map, All}
use Rattle.mw_heap.specs.Objects.{object_at, IsIn}
use Rattle.mw_bad_steps.specs.Members.{members_in}
use Rattle.mw_bad_steps.proofs.premises.put_members.Given as goal

abbrev pub invariant-loop-first : goal.invariant-loop-first
invariant-loop-first l = record {
  rest : IsIn l.fn.heap.objects l.rest;
  within : All (IsIn l.fn.heap.objects) l.members.items;
  same : map (object_at l.fn.heap.objects) l.members.items ++ members_in (object_at l.fn.heap.objects l.rest) ≡ map (object_at l.fn.heap.objects) l.fn.members.items ++ members_in (object_at l.fn.heap.objects l.fn.list);
}

abbrev pub decreases-loop-first : goal.decreases-loop-first
decreases-loop-first l = l.rest
