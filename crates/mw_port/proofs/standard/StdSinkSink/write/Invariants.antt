use Rattle.std.proofs.Common.{◌≡◌}
use Rattle.std.specs.Io.KnownBytes.{Keeps}
use Rattle.mw_port.proofs.standard.StdSinkSink.write.Given as goal

abbrev pub invariant-loop : goal.invariant-loop
invariant-loop g l = (l.self.faults ≡ l.fn.self.faults) × Keeps (g.W.Write.contents l.fn.self.writer) (g.W.Write.contents l.self.writer)
