-- The names so far are new, and none of them comes twice.
use Rattle.mw_explain.proofs.DraftNames.{NamesSoFar}
use Rattle.mw_explain.proofs.draft_name.first_bad_name.Given as goal

abbrev pub invariant-loop-index : goal.invariant-loop-index
invariant-loop-index l = NamesSoFar l.arity l.heap.objects l.drafts l.index l.names.keys
