-- The proofs before the rest are not refused.
use Rattle.std.proofs.Common.{◌≡◌}
use Rattle.mw_heap.specs.Variants.{refusal_of}
use Rattle.mw_explain_events.proofs.RefusedProofs.{Walks}
use Rattle.mw_explain_events.proofs.proofs.first_refused_shown.Given as goal

abbrev pub invariant-loop-formula : goal.invariant-loop-formula
invariant-loop-formula l =
    Walks l.initial.heap.objects l.theory l.initial.checker.steps (refusal_of l.fn.reason) l.fn.formulas l.fn.proofs l.heap.objects l.marks l.left l.rest l.number
    × (l.checker.steps ≡ l.initial.checker.steps)

abbrev pub decreases-loop-formula : goal.decreases-loop-formula
decreases-loop-formula l = l.left
