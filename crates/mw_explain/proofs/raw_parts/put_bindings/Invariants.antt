-- The bindings so far.
use Rattle.mw_explain.specs.RawParts.{binding_members}
use Rattle.mw_explain.proofs.PuttingParts.{Walks}
use Rattle.mw_explain.proofs.raw_parts.put_bindings.Given as goal

abbrev pub invariant-loop-binding : goal.invariant-loop-binding
invariant-loop-binding l = Walks binding_members l.heap.objects l.fn.bindings l.rest l.fn.parts.refs.items l.parts.refs.items

abbrev pub decreases-loop-binding : goal.decreases-loop-binding
decreases-loop-binding l = l.rest
