use Rattle.std.proofs.Common.{◌≡◌, ◌<◌, ◌≤◌, ◌⊎◌, drop}
use Rattle.mw_read.specs.Standing.{work}
use Rattle.mw_read.specs.Feeding.{IsAwaiting}
use Rattle.mw_answers.specs.Answering.{Taking}
use Rattle.mw_answers.proofs.reading.take_piece.Given as goal

abbrev pub invariant-loop-at : goal.invariant-loop-at
invariant-loop-at g l = record {
  taking : Taking g.A.Answering.objects g.A.Answering.unwritten g.A.Answering.count g.A.Answering.answered l.fn.answering l.fn.reader.parser l.piece l.answering l.reader.parser l.at;
  awaits : IsAwaiting l.reader;
  no_more : work l.reader.parser (drop l.at l.piece) ≤ work l.fn.reader.parser l.piece;
  less : (l.at ≡ 0) ⊎ (work l.reader.parser (drop l.at l.piece) < work l.fn.reader.parser l.piece);
}

abbrev pub decreases-loop-at : goal.decreases-loop-at
decreases-loop-at g l = work l.reader.parser (drop l.at l.piece)
