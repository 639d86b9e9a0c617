use Rattle.std.proofs.Common.{[], length, ap, arith}
use Rattle.mw_term.proofs.Entries.{length-entries_before}
use Rattle.mw_term.proofs.arity.Arity.len.Goals as goal

pub returns : goal.returns
returns c = omega (arith, c.len.ensures.len, length-entries_before c.self.inside.arities.entries [], ap length c.self.view_is)
