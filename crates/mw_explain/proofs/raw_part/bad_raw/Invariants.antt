-- What is looked at does not expand, and shows what is looked for.
use Rattle.std.proofs.Common.{◌≡◌, ◌++◌, None}
use Rattle.mw_model.specs.Events.Expansion.{expand}
use Rattle.mw_heap.specs.Objects.{object_at, IsIn, Grows}
use Rattle.mw_commands.specs.Commands.ExplanationTerms.{bad_raw}
use Rattle.mw_explain.proofs.raw_part.bad_raw.Given as goal

abbrev pub invariant-loop-part : goal.invariant-loop-part
invariant-loop-part l = record {
  grows : Grows l.fn.heap.objects l.heap.objects;
  within : IsIn l.fn.heap.objects l.at;
  none : expand (l.newer ++ l.older) (object_at l.fn.heap.objects l.at) ≡ None;
  same : bad_raw (l.newer ++ l.older) (object_at l.fn.heap.objects l.at) ≡ bad_raw (l.newer ++ l.older) (object_at l.fn.heap.objects l.fn.raw);
}

abbrev pub decreases-loop-part : goal.decreases-loop-part
decreases-loop-part l = l.at
