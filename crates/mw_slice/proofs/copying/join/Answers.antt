-- The copies of the parts stand in the heap.
use Rattle.mw_slice.proofs.CopiedParts.{copies-Grows}
use Rattle.mw_slice.proofs.copying.join.Goals as goal

pub cons-requires-clause-first_in : goal.cons-requires-clause-first_in
cons-requires-clause-first_in c = (c.requires.copies c.args.first c.copy_of.result c.copy_of.ensures).0

pub cons-requires-clause-second_in : goal.cons-requires-clause-second_in
cons-requires-clause-second_in c = (c.requires.copies c.args.second c.copy_of-2.result c.copy_of-2.ensures).0

pub note-requires-clause-copies : goal.note-requires-clause-copies
note-requires-clause-copies c = copies-Grows c.args.from.now.objects c.args.to.now.objects c.cons.new.self.objects c.args.copies.now c.cons.ensures.grows c.requires.copies
