-- The cells that have copies, and the jobs that wait.
use Rattle.mw_heap.specs.Objects.{Grows}
use Rattle.mw_slice.specs.Copies.{jobs_weight}
use Rattle.mw_slice.proofs.CopiedParts.{IsCopying}
use Rattle.mw_slice.proofs.copying.copy_cells.Given as goal

abbrev pub invariant-loop-job : goal.invariant-loop-job
invariant-loop-job l = Grows l.fn.to.objects l.to.objects × IsCopying l.from.objects l.to.objects l.fn.x l.copies l.jobs.items

abbrev pub decreases-loop-job : goal.decreases-loop-job
decreases-loop-job l = jobs_weight l.from.objects l.jobs.items
