-- What the request is owed is what the words are owed; where memory runs out before anything is done, nothing was written.
use Rattle.std.proofs.Common.{inr}
use Rattle.mw_book.proofs.Asked.{nothing_written, nothing_answered}
use Rattle.mw_book.proofs.Fulfilled.{on_words}
use Rattle.mw_book.proofs.command.run.Goals as goal

pub returns-in-Ok-clause-report : goal.returns-in-Ok-clause-report
returns-in-Ok-clause-report g c = (on_words _ _ c.in-Ok.ensures c.fulfil.ensures).report

pub returns-in-Ok-clause-read_whole : goal.returns-in-Ok-clause-read_whole
returns-in-Ok-clause-read_whole g c = (on_words _ _ c.in-Ok.ensures c.fulfil.ensures).read_whole

pub returns-in-Ok-clause-unread : goal.returns-in-Ok-clause-unread
returns-in-Ok-clause-unread g c = (on_words _ _ c.in-Ok.ensures c.fulfil.ensures).unread

pub returns-in-Ok-clause-help : goal.returns-in-Ok-clause-help
returns-in-Ok-clause-help g c = (on_words _ _ c.in-Ok.ensures c.fulfil.ensures).help

pub returns-in-Ok-clause-usage : goal.returns-in-Ok-clause-usage
returns-in-Ok-clause-usage g c = (on_words _ _ c.in-Ok.ensures c.fulfil.ensures).usage

pub returns-in-Ok-clause-read_fault : goal.returns-in-Ok-clause-read_fault
returns-in-Ok-clause-read_fault g c = (on_words _ _ c.in-Ok.ensures c.fulfil.ensures).read_fault

pub returns-in-Ok-clause-write_fault : goal.returns-in-Ok-clause-write_fault
returns-in-Ok-clause-write_fault g c = (on_words _ _ c.in-Ok.ensures c.fulfil.ensures).write_fault

pub returns-in-Ok-clause-memory : goal.returns-in-Ok-clause-memory
returns-in-Ok-clause-memory g c = (on_words _ _ c.in-Ok.ensures c.fulfil.ensures).memory

pub returns-in-Ok-clause-answers : goal.returns-in-Ok-clause-answers
returns-in-Ok-clause-answers g c = (on_words _ _ c.in-Ok.ensures c.fulfil.ensures).answers

pub returns-in-Ok-clause-source_steady : goal.returns-in-Ok-clause-source_steady
returns-in-Ok-clause-source_steady g c = (on_words _ _ c.in-Ok.ensures c.fulfil.ensures).source_steady

pub returns-in-Ok-clause-sink_steady : goal.returns-in-Ok-clause-sink_steady
returns-in-Ok-clause-sink_steady g c = (on_words _ _ c.in-Ok.ensures c.fulfil.ensures).sink_steady

pub returns-in-Err-clause-memory : goal.returns-in-Err-clause-memory
returns-in-Err-clause-memory g c = λ e. nothing_written c.answers_promised.ensures.begun c.args.words.now (g.S.Source.left c.args.source.now) (g.K.Sink.taken c.args.sink.now)

pub returns-in-Err-clause-answers : goal.returns-in-Err-clause-answers
returns-in-Err-clause-answers g c = λ e. inr (nothing_answered c.args.words.now (g.S.Source.left c.args.source.now) (g.K.Sink.taken c.args.sink.now))
