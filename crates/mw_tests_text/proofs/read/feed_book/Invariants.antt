use Rattle.mw_read.specs.Standing.{IsStanding, IsFree}
use Rattle.mw_read.specs.Feeding.{IsAwaiting}
use Rattle.mw_tests_text.proofs.read.feed_book.Given as goal

abbrev pub invariant-loop-piece : goal.invariant-loop-piece
invariant-loop-piece l = record {
  stands : IsStanding l.heap.objects l.reader.parser;
  awaits : IsAwaiting l.reader;
  free : IsFree l.reader.parser;
}
