-- The members so far.
use Rattle.mw_bad_steps.specs.Members.{members_in}
use Rattle.mw_explain.proofs.PuttingParts.{Walks}
use Rattle.mw_explain.proofs.raw_parts.put_members.Given as goal

abbrev pub invariant-loop-first : goal.invariant-loop-first
invariant-loop-first l = Walks members_in l.heap.objects l.fn.list l.rest l.fn.parts.refs.items l.parts.refs.items

abbrev pub decreases-loop-first : goal.decreases-loop-first
decreases-loop-first l = l.rest
