-- Where there is no bound it is as it is without one.
use Rattle.mw_model.specs.Events.Admission.{some_drafts}
use Rattle.mw_heap.specs.Objects.{object_at}
use Rattle.mw_define.proofs.BlockTested.{unbounded-list}
use Rattle.mw_define.proofs.admission.admit_block.Goals as goal

pub returns-in-Ok-clause-admitted : goal.returns-in-Ok-clause-admitted
returns-in-Ok-clause-admitted c = unbounded-list c.args.arity.now (some_drafts (object_at c.args.heap.now.objects c.args.defs)) c.admit_list.new.heap.objects c.in-Ok.admitted c.in-Ok.ensures.admitted
