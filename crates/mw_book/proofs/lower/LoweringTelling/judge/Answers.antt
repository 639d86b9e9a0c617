-- The event is judged with proofs in place of its derivations.
use Rattle.mw_heap.specs.Objects.{object_at}
use Rattle.mw_kernel.specs.Fates.{fate_of}
use Rattle.mw_book.proofs.LoweredOne.{lowered_one}
use Rattle.mw_book.proofs.lower.LoweringTelling.judge.Goals as goal

pub returns : goal.returns
returns c =
    let k = c.args.kernel.now in
    let low = c.in_ok-lowered.ensures in
    let middle = c.lowered.new.kernel in
    let event = c.in_ok-fate.ensures in
    lowered_one c.lowered_events.ensures.same c.lowered_events.ensures.written c.lowerings_possible.ensures.last k middle _ c.args._number (object_at k.objects c.args.x) (object_at middle.objects c.in_ok-lowered.lowered)
    (fate_of c.in_ok-fate.fate) _ _ _ c.requires.in_range low.rewritten low.datum low.theory low.steps event.fate event.theory event.steps c.requires.begun c.in_ok-end_piece.ensures
