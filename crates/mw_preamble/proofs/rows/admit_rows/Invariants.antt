-- What is left of the rows brings what is not there yet.
use Rattle.mw_preamble.proofs.RowsWalk.{Walks}
use Rattle.mw_preamble.proofs.rows.admit_rows.Given as goal

abbrev pub invariant-loop-row : goal.invariant-loop-row
invariant-loop-row l = Walks l.heap.objects l.fn.rows l.fn.arity l.rest l.arity l.axioms.items

abbrev pub decreases-loop-row : goal.decreases-loop-row
decreases-loop-row l = l.rest
