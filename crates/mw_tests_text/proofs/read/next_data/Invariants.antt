use Rattle.mw_read.specs.Standing.{IsStanding, work}
use Rattle.mw_read.specs.Feeding.{UnreadFollows}
use Rattle.mw_tests_text.proofs.read.next_data.Given as goal

abbrev pub invariant-loop-x : goal.invariant-loop-x
invariant-loop-x l = record {
  stands : IsStanding l.heap.objects l.reader.parser;
  follows : UnreadFollows l.reader;
}

abbrev pub decreases-loop-x : goal.decreases-loop-x
decreases-loop-x l = work l.reader.parser l.reader.unread
