-- A new reader was handed nothing.
use Rattle.std.proofs.Common.{[]}
use Rattle.mw_tests_text.proofs.read.read_book.Goals as goal

pub feed_book-requires-clause-stands : goal.feed_book-requires-clause-stands
feed_book-requires-clause-stands c = ([], [], c.new-reader.ensures.stands c.args.heap.now.objects)
