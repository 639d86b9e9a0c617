-- All was read, and the last text written.
use Rattle.std.proofs.Common.{subst}
use Rattle.mw_model.specs.Reports.Report.{status_of}
use Rattle.mw_answers.specs.LastTexts.{IsLastText, refused_for}
use Rattle.mw_answers.specs.Answering.{fault_of}
use Rattle.mw_answers.specs.Checks.{BookEnds}
use Rattle.mw_answers.proofs.Headlines.{ends_with, concludes_reads}
use Rattle.mw_answers.proofs.book.answer_book.Goals as goal

pub conclude-requires-clause-known : goal.conclude-requires-clause-known
conclude-requires-clause-known g c = let w = c.in-Ok.ensures.whole in (g.A.Answering.request c.args.answering.now, w.given, w.known)

pub returns-in-Ok-clause-ends : goal.returns-in-Ok-clause-ends
returns-in-Ok-clause-ends g c =
    let w = c.in-Ok.ensures.whole in
    let q = g.A.Answering.request c.args.answering.now in
    let after = g.K.Sink.taken c.conclude.new.sink in
    subst (λ n. BookEnds c.conclude.result q (g.S.Source.left c.args.source.now) (g.S.Source.left c.read_all.new.source) (g.K.Sink.taken c.args.sink.now) after n (g.K.Sink.shortages c.conclude.new.sink)) c.in-Ok.ensures.enough
    (ends_with w c.answers_promised.ensures.whole c.answers_promised.ensures.begun c.conclude.result after (g.K.Sink.shortages c.read_all.new.sink) (g.K.Sink.shortages c.conclude.new.sink) (c.conclude.ensures.concludes q w.given w.known))

pub returns-in-Ok-clause-source_counts : goal.returns-in-Ok-clause-source_counts
returns-in-Ok-clause-source_counts g c =
    let w = c.in-Ok.ensures.whole in
    let q = g.A.Answering.request c.args.answering.now in
    let f = fault_of c.in-Ok.fault in
    concludes_reads c.conclude.result (status_of f (refused_for q w.given)) (IsLastText q w.given f) (g.K.Sink.taken c.read_all.new.sink) (g.K.Sink.taken c.conclude.new.sink) (g.K.Sink.shortages c.read_all.new.sink) (g.K.Sink.shortages c.conclude.new.sink) (g.S.Source.faults c.args.source.now) (g.S.Source.faults c.read_all.new.source)
    (c.conclude.ensures.concludes q w.given w.known) c.in-Ok.ensures.steady.0
