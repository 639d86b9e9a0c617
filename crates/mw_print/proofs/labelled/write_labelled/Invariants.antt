-- The text is under way.
use Rattle.mw_print.specs.Waiting.{is_one_of, pieces_weight}
use Rattle.mw_print.proofs.Waiting.{IsUnderWay}
use Rattle.mw_print.proofs.labelled.write_labelled.Given as goal

abbrev pub invariant-loop-piece : goal.invariant-loop-piece
invariant-loop-piece l = IsUnderWay (is_one_of l.heap.objects l.again.keys) l.heap.objects l.fn.x l.fn.numbers.next l.pieces.items l.numbers.given.entries l.numbers.next l.out.items

abbrev pub decreases-loop-piece : goal.decreases-loop-piece
decreases-loop-piece l = pieces_weight l.heap.objects l.pieces.items
