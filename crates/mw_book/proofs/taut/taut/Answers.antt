-- Nothing was read.
use Rattle.std.proofs.Common.{refl}
use Rattle.mw_model.specs.Reports.Request.{Taut}
use Rattle.mw_answers.proofs.CallerLemmas.{ends_none}
use Rattle.mw_book.proofs.taut.taut.Goals as goal

pub returns-in_default-clause-ends : goal.returns-in_default-clause-ends
returns-in_default-clause-ends g c = ends_none c.answers_promised.ensures.begun Taut refl (g.S.Source.left c.args.source.now) (g.S.Source.left c.args.source.now) (g.K.Sink.taken c.args.sink.now) (g.K.Sink.shortages c.args.sink.now) (g.K.Sink.shortages c.args.sink.now)
