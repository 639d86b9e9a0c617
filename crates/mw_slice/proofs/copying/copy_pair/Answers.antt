-- A pair is joined, or its parts are to be copied first.
use Rattle.std.proofs.lemmas.Result.{on_ok_weaker}
use Rattle.mw_slice.specs.declared.copying.Job.TheVariants.{Copy}
use Rattle.mw_slice.proofs.CopiedParts.{done_alone, done_pair}
use Rattle.mw_slice.proofs.copying.copy_pair.Goals as goal

pub returns-then-is_some-2-clause-done : goal.returns-then-is_some-2-clause-done
returns-then-is_some-2-clause-done c =
    on_ok_weaker c.join.result (λ k. done_alone c.args.from.now.objects c.args.copies.now c.join.new.copies c.args.jobs.now.items (Copy c.args.x) k.kept k.copied) c.join.ensures.copied

pub returns-clause-done : goal.returns-clause-done
returns-clause-done c =
    on_ok_weaker c.enter.result (λ e. done_pair c.args.from.now.objects c.args.copies.now c.args.jobs.now.items c.enter.new.jobs.items c.args.x c.args.first c.args.second c.requires.pair c.requires.first_in c.requires.second_in e) c.enter.ensures
