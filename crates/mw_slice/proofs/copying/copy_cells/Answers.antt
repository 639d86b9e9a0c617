-- One job after another.
use Rattle.std.proofs.Common.{subst, arith}
use Rattle.mw_heap.proofs.Objects.{Grows-refl, Grows-trans}
use Rattle.mw_slice.proofs.Walking.{nothing_left}
use Rattle.mw_slice.proofs.CopiedParts.{IsCopying, copying_starts, jobs_fall, last_possible, copying_goes, copying_ends}
use Rattle.mw_slice.proofs.copying.copy_cells.Goals as goal

pub loop-job-init : goal.loop-job-init
loop-job-init c = (Grows-refl c.args.to.now.objects, copying_starts c.args.from.now.objects c.args.to.now.objects c.args.x c.args.copies.now c.args.jobs.now.items c.requires.within c.requires.none c.requires.job)

pub work-requires-clause-possible : goal.work-requires-clause-possible
work-requires-clause-possible c =
    let from = c.args.from.now.objects in
    let now = c.loop-job in
    last_possible from now.copies c.pop.new.self.items c.in-Some.job (subst (λ l. IsCopying from now.to.objects c.args.x now.copies l) c.in-Some.ensures.items now.invariant.1).possible

pub loop-job-smaller : goal.loop-job-smaller
loop-job-smaller c =
    let now = c.loop-job in
    let next = c.work.new in
    jobs_fall c.args.from.now.objects now.copies next.copies c.pop.new.self.items next.jobs.items now.jobs.items c.in-Some.job c.in-Some.ensures.items c.in_ok-work.ensures.done

pub loop-job-preserved : goal.loop-job-preserved
loop-job-preserved c =
    let from = c.args.from.now.objects in
    let now = c.loop-job in
    let next = c.work.new in
    let done = c.in_ok-work.ensures in (
      Grows-trans c.args.to.now.objects now.to.objects next.to.objects now.invariant.0 c.work.ensures.grows,
      copying_goes from now.to.objects next.to.objects c.args.x now.copies next.copies c.in-Some.job c.pop.new.self.items next.jobs.items
          (subst (λ l. IsCopying from now.to.objects c.args.x now.copies l) c.in-Some.ensures.items now.invariant.1) done.copies done.done,
    )

pub copy_of-requires : goal.copy_of-requires
copy_of-requires c =
    let now = c.loop-job in
    copying_ends c.args.from.now.objects now.to.objects c.args.x now.copies now.jobs.items now.invariant.1
    (nothing_left now.jobs.items c.pop.new.self.items c.in_default.ensures.items (omega (arith, c.in_default.ensures.cases.1, c.pop.new.self.ok.0)))

pub returns-clause-made : goal.returns-clause-made
returns-clause-made c = c.loop-job.invariant.1.right c.args.x c.copy_of.result c.copy_of.ensures
