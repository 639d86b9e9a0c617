-- The proofs before the rest are not refused, by a judge that says the same as before and is as ready.
use Rattle.std.proofs.Common.{List}
use Rattle.mw_model.specs.Terms.Object.{Object}
use Rattle.mw_heap.specs.Objects.{Grows}
use Rattle.mw_theory.specs.Judging.{IsSameJudge}
use Rattle.mw_theory.proofs.ProofLists.{Walks}
use Rattle.mw_theory.proofs.proofs.first_refusal.Given as goal

abbrev pub invariant-loop-formula : goal.invariant-loop-formula
invariant-loop-formula g l =
    ((os : List Object) → Grows os l.initial.heap.objects → g.J.Judge.ready l.initial.judge os → Walks l.initial.heap.objects l.theory (g.J.Judge.judges l.initial.judge os) l.fn.obligations l.fn.proofs l.heap.objects l.marks l.formulas l.rest)
    × IsSameJudge g.J.Judge.ready g.J.Judge.judges g.J.Judge.limit l.initial.judge l.judge

abbrev pub decreases-loop-formula : goal.decreases-loop-formula
decreases-loop-formula g l = l.formulas
