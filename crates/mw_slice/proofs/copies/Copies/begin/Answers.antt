-- The next round has no notes.
use Rattle.std.proofs.Common.{arith}
use Rattle.mw_slice.proofs.Noted.{none_noted}
use Rattle.mw_slice.proofs.copies.Copies.begin.Goals as goal

pub returns-in-Some : goal.returns-in-Some
returns-in-Some c = λ x. none_noted c.self.inside.round c.in-Some.round c.self.inside.notes.items c.self.invariant.earlier (omega (arith, c.in-Some.ensures)) x
