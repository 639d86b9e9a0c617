-- The event is judged.
use Rattle.mw_heap.specs.Objects.{object_at}
use Rattle.mw_kernel.specs.Fates.{fate_of}
use Rattle.mw_book.proofs.OneMore.{after_nothing}
use Rattle.mw_book.proofs.ReportedOne.{reported_one}
use Rattle.mw_book.proofs.check.ReportingTelling.judge.Goals as goal

pub returns : goal.returns
returns c =
    let k = c.args.kernel.now in
    let event = c.in_ok-fate.ensures in
    reported_one k _ c.args._number (object_at k.objects c.args.x) (fate_of c.in_ok-fate.fate) _ _ event.fate event.theory event.steps c.requires.begun (after_nothing c.requires.empty c.in_ok-write_line.ensures)
