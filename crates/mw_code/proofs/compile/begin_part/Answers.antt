-- The part's own job comes first, and then the one that notes it.
use Rattle.std.proofs.Common.{List, ◌++◌, ◌∷◌, [], ap, ◌∙◌}
use Rattle.mw_code.specs.declared.job.Job.{Job}
use Rattle.mw_code.specs.declared.job.Job.TheVariants.{Own as TheOwn}
use Rattle.mw_code.proofs.PartForms.{begin-piece}
use Rattle.mw_code.proofs.compile.begin_part.Goals as goal

pub returns : goal.returns
returns c =
    begin-piece c.args.place c.args.jobs.now.items c.push-2.new.self.items c.args.task c.part_task.result c.args.count c.requires c.part_task.ensures
    (c.in_ok-push-2.ensures.items ∙ ap (λ (l : List Job). l ++ TheOwn c.part_task.result ∷ []) c.in_ok-push.ensures.items)
