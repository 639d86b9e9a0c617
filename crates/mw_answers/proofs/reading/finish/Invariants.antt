use Rattle.mw_read.specs.Standing.{work}
use Rattle.mw_answers.proofs.Taken.{Finishing}
use Rattle.mw_answers.proofs.reading.finish.Given as goal

abbrev pub invariant-loop-x : goal.invariant-loop-x
invariant-loop-x g l = Finishing g.A.Answering.objects g.A.Answering.unwritten g.A.Answering.count g.A.Answering.answered l.fn.answering l.fn.reader.parser l.answering l.reader

abbrev pub decreases-loop-x : goal.decreases-loop-x
decreases-loop-x g l = work l.reader.parser l.reader.unread
