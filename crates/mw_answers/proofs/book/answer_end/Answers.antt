-- The end of the book was answered, and the lines are written.
use Rattle.std.proofs.Common.{inl, inr}
use Rattle.std.proofs.lemmas.Result.{err_from_is_err_and}
use Rattle.mw_answers.specs.declared.status.Status.TheVariants as ending
use Rattle.mw_answers.proofs.Writings.{end_stops, ends_written, short_at}
use Rattle.mw_answers.proofs.Written.{takes_some}
use Rattle.mw_answers.proofs.book.answer_end.Goals as goal

pub returns-in_err-write_lines-clause-stops : goal.returns-in_err-write_lines-clause-stops
returns-in_err-write_lines-clause-stops g c =
    let p = err_from_is_err_and c.from_residual.result c.from_residual.ensures.1 in
    rw (p.1, p.2) (λ h given s.
    end_stops g.A.Answering.unwritten g.A.Answering.answered c.in_err-write_lines.field-0.0 c.args.answering.now c.finish-finished.new.answering given _ _ _ _ _ c.requires.none_left (c.finish-finished.ensures.expected h given s) c.in_err-write_lines.ensures.some
    (λ i. inl (short_at c.in_err-write_lines.field-0.0 _ _ c.in_err-write_lines.ensures.short i)))

pub returns-in-Ok-clause-ends : goal.returns-in-Ok-clause-ends
returns-in-Ok-clause-ends g c h given s =
    ends_written c.args.answering.now c.finish-finished.new.answering c.write_lines.new.answering h given c.in-Ok.fault (g.K.Sink.taken c.args.sink.now) (g.K.Sink.taken c.write_lines.new.sink) c.requires.none_left c.in_ok-write_lines.ensures.written c.write_lines.ensures.answered (c.in-Ok.ensures.ends h given s)

pub returns-in-Err-clause-stops : goal.returns-in-Err-clause-stops
returns-in-Err-clause-stops g c h given s =
    let t = c.in_ok-write_lines.ensures.written in
    end_stops g.A.Answering.unwritten g.A.Answering.answered ending.Memory c.args.answering.now c.finish-finished.new.answering given _ (g.K.Sink.taken c.args.sink.now) (g.K.Sink.taken c.write_lines.new.sink) _ _ c.requires.none_left (c.finish-finished.ensures.expected h given s) (takes_some _ _ _ t) (λ i. inr t)
