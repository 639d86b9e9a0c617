-- The proofs before the rest are rewritten.
use Rattle.mw_kernel.proofs.Rewritten.{Rewrites}
use Rattle.mw_kernel.proofs.rewriting.rewritten_members.Given as goal

abbrev pub invariant-loop-proof : goal.invariant-loop-proof
invariant-loop-proof g l = Rewrites g.R.Rewriter.turns l.initial.heap.objects l.theory l.fn.proofs l.heap.objects l.marks l.rest l.members.items

abbrev pub decreases-loop-proof : goal.decreases-loop-proof
decreases-loop-proof g l = l.rest
