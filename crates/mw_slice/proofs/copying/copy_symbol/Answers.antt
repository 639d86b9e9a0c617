-- The copies stay where the heap grows.
use Rattle.std.proofs.Common.{◌∙◌}
use Rattle.mw_heap.specs.Objects.{object_at}
use Rattle.mw_slice.proofs.CopiedParts.{copies-Grows, symbol_copied}
use Rattle.mw_slice.proofs.copying.copy_symbol.Goals as goal

pub note-requires-clause-same : goal.note-requires-clause-same
note-requires-clause-same c = c.in_ok-made.ensures.made.1 ∙ symbol_copied (object_at c.args.from.now.objects c.args.x) c.name_of.result.now c.requires.symbol c.name_of.ensures

pub note-requires-clause-copies : goal.note-requires-clause-copies
note-requires-clause-copies c = copies-Grows c.args.from.now.objects c.args.to.now.objects c.symbol.new.self.objects c.args.copies.now c.symbol.ensures.grows c.requires.copies
