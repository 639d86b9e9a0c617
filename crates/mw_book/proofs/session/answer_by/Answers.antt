-- Nothing was read.
use Rattle.mw_answers.proofs.CallerLemmas.{ends_none}
use Rattle.mw_book.proofs.session.answer_by.Goals as goal

pub returns-in_default-clause-ends : goal.returns-in_default-clause-ends
returns-in_default-clause-ends g c q expected same = ends_none c.answers_promised.ensures.begun q expected (g.S.Source.left c.args.source.now) (g.S.Source.left c.args.source.now) (g.K.Sink.taken c.args.sink.now) (g.K.Sink.shortages c.args.sink.now) (g.K.Sink.shortages c.args.sink.now)

pub returns-in_default-new-clause-ends : goal.returns-in_default-new-clause-ends
returns-in_default-new-clause-ends g c q expected same = ends_none c.answers_promised.ensures.begun q expected (g.S.Source.left c.args.source.now) (g.S.Source.left c.args.source.now) (g.K.Sink.taken c.args.sink.now) (g.K.Sink.shortages c.args.sink.now) (g.K.Sink.shortages c.args.sink.now)
