-- The marks are right up to here, and so is the next one.
use Rattle.std.proofs.Common.{sym, subst, arith}
use Rattle.mw_term.specs.Marking.{AreMarks}
use Rattle.mw_term.specs.Watching.{IsNoted, IsLastingIn}
use Rattle.mw_term.specs.Settling.{Waits}
use Rattle.mw_term.proofs.Settled.{none-in, all-marks, all-last, settled-next}
use Rattle.mw_term.proofs.watch.Watch.mark_next.Goals as goal

pub mark_cell-requires-clause-marked : goal.mark_cell-requires-clause-marked
mark_cell-requires-clause-marked c =
    let w = c.args.self.now in
    let ms = c.args.cells.now.items in
    subst (AreMarks c.args.arity.now c.args.heap.now.objects) (sym c.as_slice-marks.ensures.value) (all-marks c.args.arity.now c.args.heap.now.objects ms w c.requires.size (Waits w) c.requires.settling (none-in w c.requires.none))

pub note_reasons-requires-clause-marked : goal.note_reasons-requires-clause-marked
note_reasons-requires-clause-marked c =
    let w = c.args.self.now in
    let ms = c.args.cells.now.items in
    subst (AreMarks c.args.arity.now c.args.heap.now.objects) (sym c.as_slice-marks.ensures.value) (all-marks c.args.arity.now c.args.heap.now.objects ms w c.requires.size (Waits w) c.requires.settling (none-in w c.requires.none))

pub note_reasons-requires-clause-lasting : goal.note_reasons-requires-clause-lasting
note_reasons-requires-clause-lasting c = λ x before is.
    let w = c.args.self.now in
    let ms = c.args.cells.now.items in
    all-last c.args.arity.now c.args.heap.now.objects ms w c.requires.size (Waits w) c.requires.settling (none-in w c.requires.none) x (omega (arith, before, c.requires.next)) (subst (λ l. IsLastingIn l x) c.as_slice.ensures.value is)

pub returns-clause-settling : goal.returns-clause-settling
returns-clause-settling c =
    let w = c.args.self.now in
    let ms = c.args.cells.now.items in
    settled-next c.args.arity.now c.args.heap.now.objects ms c.push.new.self.items w _ c.requires.size (Waits w) c.requires.settling c.args.x c.in_ok-mark.mark c.in_ok-lasts.lasts c.in_ok-mark.ensures.mark (λ y o. absurd (none-in w c.requires.none y o)) (IsNoted c.note_reasons.new.notes.by_part.entries) c.in_ok-lasts.ensures.reasons c.in_ok-lasts.ensures.lasts c.in_ok-lasts.ensures.kept c.requires.next c.requires.within c.in_ok-push.ensures.items c.in_ok-push-2.ensures.items
    (λ y o. o) (λ p y o. o)
