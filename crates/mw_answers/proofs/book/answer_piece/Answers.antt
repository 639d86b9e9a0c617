-- What is taken of the piece is written before more of it is.
use Rattle.std.proofs.Common.{◌∙◌, ◌-◌, ◌++◌, inl, inr, refl, subst, take, drop, length}
use Rattle.std.proofs.lemmas.Result.{err_from_is_err_and}
use Rattle.mw_port.specs.Ports.{Rises}
use Rattle.mw_read.proofs.Beginning.{rest_is}
use Rattle.mw_answers.specs.Answering.{HasTaken, AreFirst, AreExpectedFirst}
use Rattle.mw_answers.specs.declared.reading.Taken.TheVariants as takings
use Rattle.mw_answers.specs.declared.status.Status.TheVariants as ending
use Rattle.mw_answers.proofs.Writings.{writing_none, standing_after, writing_more, written_fault, writing_stops, short_at}
use Rattle.mw_answers.proofs.Written.{takes_some}
use Rattle.mw_answers.proofs.book.answer_piece.Goals as goal

pub loop-at-init : goal.loop-at-init
loop-at-init g c = record {
  writing = writing_none c.args.answering.now c.args.reader.now.parser c.args.piece.now (g.K.Sink.taken c.args.sink.now) (c.requires.free c.args.piece.now) c.requires.known c.requires.none_left;
  awaits = c.requires.awaits;
  steady = refl;
  enough = refl;
}

pub take_piece-taken-requires-clause-stands : goal.take_piece-taken-requires-clause-stands
take_piece-taken-requires-clause-stands g c = standing_after c.loop-at.invariant.writing c.requires.stands

pub returns-in_err-write_lines-clause-stops : goal.returns-in_err-write_lines-clause-stops
returns-in_err-write_lines-clause-stops g c =
    let p = err_from_is_err_and c.from_residual.result c.from_residual.ensures.1 in
    let s = c.in_err-write_lines.field-0.0 in
    let count = g.K.Sink.shortages c.write_lines.new.sink in
    rw (p.1, p.2) (writing_stops c.loop-at.invariant.writing s c.take_piece-taken.new.answering (g.K.Sink.taken c.write_lines.new.sink) (g.K.Sink.shortages c.args.sink.now) count
    (λ h given s. subst (λ u. AreExpectedFirst g.A.Answering.unwritten g.A.Answering.answered c.loop-at.answering given (AreFirst (h ++ u)) c.take_piece-taken.new.answering) (rest_is c.loop-at.at c.args.piece.now) (c.take_piece-taken.ensures.expected h given s))
    c.in_err-write_lines.ensures.some
    (λ i. inl (subst (λ m. Rises m count) c.loop-at.invariant.enough (short_at s (g.K.Sink.shortages c.loop-at.sink) count c.in_err-write_lines.ensures.short i))))

pub loop-at-preserved : goal.loop-at-preserved
loop-at-preserved g c =
    let taken =
    subst (λ u. HasTaken g.A.Answering.objects g.A.Answering.unwritten g.A.Answering.count g.A.Answering.answered (takings.Bytes c.in-Bytes.n) c.loop-at.answering c.loop-at.reader.parser u c.take_piece-taken.new.answering c.take_piece-taken.new.reader.parser) (rest_is c.loop-at.at c.args.piece.now)
    (subst (λ t. HasTaken g.A.Answering.objects g.A.Answering.unwritten g.A.Answering.count g.A.Answering.answered t c.loop-at.answering c.loop-at.reader.parser (take (length c.args.piece.now - c.loop-at.at) (drop c.loop-at.at c.args.piece.now)) c.take_piece-taken.new.answering c.take_piece-taken.new.reader.parser) c.in-Bytes.is c.in-Ok.ensures.takes) in
    record {
      writing = (writing_more c.loop-at.invariant.writing c.take_piece-taken.new.answering c.write_lines.new.answering c.take_piece-taken.new.reader.parser (g.K.Sink.taken c.write_lines.new.sink) c.in_ok-write_lines.ensures.written c.write_lines.ensures.objects c.write_lines.ensures.count c.write_lines.ensures.answered c.write_lines.ensures.none_left c.in-Bytes.n taken).0;
      awaits = c.in-Ok.ensures.awaits;
      steady = c.in_ok-write_lines.ensures.steady ∙ c.loop-at.invariant.steady;
      enough = c.in_ok-write_lines.ensures.enough ∙ c.loop-at.invariant.enough;
    }

pub loop-at-smaller : goal.loop-at-smaller
loop-at-smaller g c =
    let taken =
    subst (λ u. HasTaken g.A.Answering.objects g.A.Answering.unwritten g.A.Answering.count g.A.Answering.answered (takings.Bytes c.in-Bytes.n) c.loop-at.answering c.loop-at.reader.parser u c.take_piece-taken.new.answering c.take_piece-taken.new.reader.parser) (rest_is c.loop-at.at c.args.piece.now)
    (subst (λ t. HasTaken g.A.Answering.objects g.A.Answering.unwritten g.A.Answering.count g.A.Answering.answered t c.loop-at.answering c.loop-at.reader.parser (take (length c.args.piece.now - c.loop-at.at) (drop c.loop-at.at c.args.piece.now)) c.take_piece-taken.new.answering c.take_piece-taken.new.reader.parser) c.in-Bytes.is c.in-Ok.ensures.takes) in
    (writing_more c.loop-at.invariant.writing c.take_piece-taken.new.answering c.write_lines.new.answering c.take_piece-taken.new.reader.parser (g.K.Sink.taken c.write_lines.new.sink) c.in_ok-write_lines.ensures.written c.write_lines.ensures.objects c.write_lines.ensures.count c.write_lines.ensures.answered c.write_lines.ensures.none_left c.in-Bytes.n taken).1

pub returns-in-Fault-clause-written : goal.returns-in-Fault-clause-written
returns-in-Fault-clause-written g c =
    let taken =
    subst (λ u. HasTaken g.A.Answering.objects g.A.Answering.unwritten g.A.Answering.count g.A.Answering.answered (takings.Fault c.in-Fault.kind c.in-Fault.offset) c.loop-at.answering c.loop-at.reader.parser u c.take_piece-taken.new.answering c.take_piece-taken.new.reader.parser) (rest_is c.loop-at.at c.args.piece.now)
    (subst (λ t. HasTaken g.A.Answering.objects g.A.Answering.unwritten g.A.Answering.count g.A.Answering.answered t c.loop-at.answering c.loop-at.reader.parser (take (length c.args.piece.now - c.loop-at.at) (drop c.loop-at.at c.args.piece.now)) c.take_piece-taken.new.answering c.take_piece-taken.new.reader.parser) c.in-Fault.is c.in-Ok.ensures.takes) in
    written_fault c.loop-at.invariant.writing c.take_piece-taken.new.answering c.write_lines.new.answering c.take_piece-taken.new.reader.parser (g.K.Sink.taken c.write_lines.new.sink) c.in_ok-write_lines.ensures.written c.write_lines.ensures.objects c.write_lines.ensures.count c.write_lines.ensures.answered c.write_lines.ensures.none_left c.in-Fault.kind c.in-Fault.offset taken

pub returns-in_default-clause-stops : goal.returns-in_default-clause-stops
returns-in_default-clause-stops g c =
    let t = c.in_ok-write_lines.ensures.written in
    writing_stops c.loop-at.invariant.writing ending.Memory c.take_piece-taken.new.answering (g.K.Sink.taken c.write_lines.new.sink) (g.K.Sink.shortages c.args.sink.now) (g.K.Sink.shortages c.write_lines.new.sink)
    (λ h given s. subst (λ u. AreExpectedFirst g.A.Answering.unwritten g.A.Answering.answered c.loop-at.answering given (AreFirst (h ++ u)) c.take_piece-taken.new.answering) (rest_is c.loop-at.at c.args.piece.now) (c.take_piece-taken.ensures.expected h given s))
    (takes_some (g.K.Sink.taken c.loop-at.sink) (g.K.Sink.taken c.write_lines.new.sink) (g.A.Answering.unwritten c.take_piece-taken.new.answering) t) (λ i. inr t)
