-- What the pair is noted with are its reasons; where it is noted with nothing its mark lasts.
use Rattle.mw_term.proofs.Noted.{noted-reasons, noted-lasts}
use Rattle.mw_term.proofs.noting.note_reasons.Goals as goal

pub returns-then-part_lasts-clause-reasons : goal.returns-then-part_lasts-clause-reasons
returns-then-part_lasts-clause-reasons c =
    noted-reasons c.args.arity.now c.args.heap.now.objects c.order.ensures.older c.args.cell c.in-Pair.first c.in-Pair.rest c.requires.within c.in-Pair.ensures.below.0 c.in-Pair.ensures.below.1 c.in-Pair.ensures.shows.2 c.args.lasting.now c.requires.lasting c.note_part.new.notes.by_part.entries c.note_members.new.notes.by_part.entries c.in_ok-part_lasts.part_lasts c.in_ok-members_last.members_last
    c.in_ok-part_lasts.ensures.watched (c.in_ok-members_last.ensures.watched c.args.arity.now c.requires.mark) c.in_ok-members_last.ensures.kept

pub returns-then-part_lasts-clause-lasts : goal.returns-then-part_lasts-clause-lasts
returns-then-part_lasts-clause-lasts c = λ last.
    noted-lasts c.args.arity.now c.args.heap.now.objects c.order.ensures.older c.args.cell c.in-Pair.first c.in-Pair.rest c.requires.within c.in-Pair.ensures.below.0 c.in-Pair.ensures.below.1 c.in-Pair.ensures.shows.2 c.args.lasting.now c.requires.lasting c.note_part.new.notes.by_part.entries c.note_members.new.notes.by_part.entries c.in_ok-part_lasts.part_lasts c.in_ok-members_last.members_last
    c.in_ok-part_lasts.ensures.watched (c.in_ok-members_last.ensures.watched c.args.arity.now c.requires.mark) c.if-part_lasts.true last

pub returns-else-part_lasts-clause-reasons : goal.returns-else-part_lasts-clause-reasons
returns-else-part_lasts-clause-reasons c =
    noted-reasons c.args.arity.now c.args.heap.now.objects c.order.ensures.older c.args.cell c.in-Pair.first c.in-Pair.rest c.requires.within c.in-Pair.ensures.below.0 c.in-Pair.ensures.below.1 c.in-Pair.ensures.shows.2 c.args.lasting.now c.requires.lasting c.note_part.new.notes.by_part.entries c.note_members.new.notes.by_part.entries c.in_ok-part_lasts.part_lasts c.in_ok-members_last.members_last
    c.in_ok-part_lasts.ensures.watched (c.in_ok-members_last.ensures.watched c.args.arity.now c.requires.mark) c.in_ok-members_last.ensures.kept
