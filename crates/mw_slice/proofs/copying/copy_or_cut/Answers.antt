-- What is cut off is what was made.
use Rattle.std.proofs.Common.{◌∙◌}
use Rattle.mw_heap.proofs.Objects.{Grows-same, take-Grows-mark}
use Rattle.mw_slice.proofs.copying.copy_or_cut.Goals as goal

pub returns-in-Err-clause-grows : goal.returns-in-Err-clause-grows
returns-in-Err-clause-grows c = Grows-same _ _ (c.cut_back.ensures.kept ∙ take-Grows-mark c.args.to.now.objects c.copy.new.to.objects c.mark-start.result c.mark-start.ensures c.copy.ensures.grows)

pub returns-in-Err-clause-err : goal.returns-in-Err-clause-err
returns-in-Err-clause-err c = c.cut_back.ensures.kept ∙ take-Grows-mark c.args.to.now.objects c.copy.new.to.objects c.mark-start.result c.mark-start.ensures c.copy.ensures.grows
