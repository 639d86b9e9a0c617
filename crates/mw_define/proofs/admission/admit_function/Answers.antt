-- Where there is no bound it is as it is without one.
use Rattle.std.proofs.Common.{◌∷◌, []}
use Rattle.mw_define.specs.Blocks.{draft_at}
use Rattle.mw_define.proofs.BlockTested.{unbounded}
use Rattle.mw_define.proofs.admission.admit_function.Goals as goal

pub returns-in-Ok-clause-admitted : goal.returns-in-Ok-clause-admitted
returns-in-Ok-clause-admitted c = unbounded c.args.arity.now (draft_at c.args.heap.now.objects c.args.draft ∷ []) c.admit_drafts.new.heap.objects c.in-Ok.admitted c.in-Ok.ensures.admitted
