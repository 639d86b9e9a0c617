-- The clauses so far.
use Rattle.mw_explain.specs.RawParts.{clause_members}
use Rattle.mw_explain.proofs.PuttingParts.{Walks}
use Rattle.mw_explain.proofs.raw_parts.put_clauses.Given as goal

abbrev pub invariant-loop-clause : goal.invariant-loop-clause
invariant-loop-clause l = Walks clause_members l.heap.objects l.fn.clauses l.rest l.fn.parts.refs.items l.parts.refs.items

abbrev pub decreases-loop-clause : goal.decreases-loop-clause
decreases-loop-clause l = l.rest
