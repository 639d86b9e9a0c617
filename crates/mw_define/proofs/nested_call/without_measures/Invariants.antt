-- The drafts so far without their measures.
use Rattle.std.proofs.Common.{◌≡◌, map, take}
use Rattle.mw_define.specs.NestedCall.{with_measure}
use Rattle.mw_define.proofs.nested_call.without_measures.Given as goal

abbrev pub invariant-loop-draft : goal.invariant-loop-draft
invariant-loop-draft l = l.plain.items ≡ map (with_measure l.nil) (take l.draft-index l.drafts)
