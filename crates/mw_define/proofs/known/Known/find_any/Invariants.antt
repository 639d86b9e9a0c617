-- The pieces so far are known to be free, or there is no answer.
use Rattle.mw_define.proofs.Knowing.{AreFreeBefore}
use Rattle.mw_define.proofs.known.Known.find_any.Given as goal

abbrev pub invariant-loop-piece : goal.invariant-loop-piece
invariant-loop-piece l = AreFreeBefore l.fn.self l.fn.pieces l.piece-index l.are_free
