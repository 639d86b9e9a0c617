-- The part lasts, or the cell is noted with it.
use Rattle.std.proofs.Common.{inr, refl}
use Rattle.mw_term.proofs.Noted.{added-noted, added-kept}
use Rattle.mw_term.proofs.noting.note_unless_lasting.Goals as goal

pub returns-clause-watched : goal.returns-clause-watched
returns-clause-watched c = inr (refl, added-noted c.args.notes.now.by_part.entries c.add.new.self.by_part.entries c.args.part c.args.cell c.in_ok-add.ensures)

pub returns-clause-kept : goal.returns-clause-kept
returns-clause-kept c = added-kept c.args.notes.now.by_part.entries c.add.new.self.by_part.entries c.args.part c.args.cell c.in_ok-add.ensures
