use Rattle.std.proofs.Common.{◌≡◌, length}
use Rattle.mw_read.specs.Feeding.{IsAwaiting}
use Rattle.mw_answers.proofs.Rounds.{Between}
use Rattle.mw_answers.proofs.book.read_pieces.Given as goal

abbrev pub invariant-loop : goal.invariant-loop
invariant-loop g l = record {
  between : Between g.A.Answering.objects g.A.Answering.unwritten g.A.Answering.count g.A.Answering.answered (g.A.Answering.request l.fn.answering) (g.S.Source.left l.fn.source) (g.K.Sink.taken l.fn.sink) l.answering l.reader.parser (g.S.Source.left l.source) (g.K.Sink.taken l.sink) l.counter;
  awaits : IsAwaiting l.reader;
  source_steady : g.S.Source.faults l.source ≡ g.S.Source.faults l.fn.source;
  size : length l.buffer ≡ 4096;
  sink_steady : g.K.Sink.faults l.sink ≡ g.K.Sink.faults l.fn.sink;
  enough : g.K.Sink.shortages l.sink ≡ g.K.Sink.shortages l.fn.sink;
}
