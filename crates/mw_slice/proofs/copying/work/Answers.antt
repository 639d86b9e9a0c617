-- A pair that is joined leaves no job.
use Rattle.std.proofs.Common.{sym, subst}
use Rattle.std.proofs.lemmas.Result.{on_ok_weaker}
use Rattle.mw_slice.specs.Copies.{IsDone}
use Rattle.mw_slice.specs.declared.copying.Job.{Job}
use Rattle.mw_slice.specs.declared.copying.Job.TheVariants.{Join}
use Rattle.mw_slice.proofs.CopiedParts.{done_alone}
use Rattle.mw_slice.proofs.copying.work.Goals as goal

pub returns-in-Copy-clause-done : goal.returns-in-Copy-clause-done
returns-in-Copy-clause-done c =
    let w = c.copy_cell.new in
    on_ok_weaker c.copy_cell.result (subst (λ (job : Job). IsDone c.args.from.now.objects job c.args.copies.now w.copies c.args.jobs.now.items w.jobs.items) (sym c.in-Copy.is)) c.copy_cell.ensures.done

pub returns-in-Join-clause-done : goal.returns-in-Join-clause-done
returns-in-Join-clause-done c =
    let from = c.args.from.now.objects in
    let old = c.args.copies.now in
    let new = c.join.new.copies in
    let jobs = c.args.jobs.now.items in
    let j = c.in-Join in
    on_ok_weaker c.join.result (λ k. subst (λ (job : Job). IsDone from job old new jobs jobs) (sym j.is) (done_alone from old new jobs (Join j.x j.first j.second) k.kept k.copied)) c.join.ensures.copied
