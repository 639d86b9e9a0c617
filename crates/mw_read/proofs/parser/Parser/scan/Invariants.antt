use Rattle.std.proofs.Common.{length, ◌+◌, ◌-◌, ◌*◌}
use Rattle.mw_read.specs.Parsing.{weight}
use Rattle.mw_read.proofs.Scanning.{Scans}
use Rattle.mw_read.proofs.parser.Parser.scan.Given as goal

abbrev pub invariant-loop-at : goal.invariant-loop-at
invariant-loop-at l = Scans l.fn.heap.objects l.fn.self l.fn.piece l.heap.objects l.self l.at

abbrev pub decreases-loop-at : goal.decreases-loop-at
decreases-loop-at l = 2 * (length l.piece - l.at) + weight l.self.begun
