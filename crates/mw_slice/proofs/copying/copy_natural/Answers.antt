-- The copies stay where the heap grows.
use Rattle.std.proofs.Common.{sym, ◌∙◌}
use Rattle.mw_slice.proofs.CopiedParts.{copies-Grows}
use Rattle.mw_slice.proofs.copying.copy_natural.Goals as goal

pub note-requires-clause-same : goal.note-requires-clause-same
note-requires-clause-same c = c.in_ok-made.ensures.made.1 ∙ sym c.requires.natural

pub note-requires-clause-copies : goal.note-requires-clause-copies
note-requires-clause-copies c = copies-Grows c.args.from.now.objects c.args.to.now.objects c.nat.new.self.objects c.args.copies.now c.nat.ensures.grows c.requires.copies
