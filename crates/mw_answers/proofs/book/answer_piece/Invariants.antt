use Rattle.std.proofs.Common.{◌≡◌, drop}
use Rattle.mw_read.specs.Standing.{work}
use Rattle.mw_read.specs.Feeding.{IsAwaiting}
use Rattle.mw_answers.specs.Writing.{Writing}
use Rattle.mw_answers.proofs.book.answer_piece.Given as goal

abbrev pub invariant-loop-at : goal.invariant-loop-at
invariant-loop-at g l = record {
  writing : Writing g.A.Answering.objects g.A.Answering.unwritten g.A.Answering.count g.A.Answering.answered l.fn.answering l.fn.reader.parser l.piece (g.K.Sink.taken l.fn.sink) l.answering l.reader.parser l.at (g.K.Sink.taken l.sink);
  awaits : IsAwaiting l.reader;
  steady : g.K.Sink.faults l.sink ≡ g.K.Sink.faults l.fn.sink;
  enough : g.K.Sink.shortages l.sink ≡ g.K.Sink.shortages l.fn.sink;
}

abbrev pub decreases-loop-at : goal.decreases-loop-at
decreases-loop-at g l = work l.reader.parser (drop l.at l.piece)
