-- Between two pieces anything may be fed.
use Rattle.std.proofs.Common.{sym, subst, inl}
use Rattle.mw_read.specs.Feeding.{UnreadFollows}
use Rattle.mw_tests_text.proofs.read.feed_book.Goals as goal

pub loop-piece-init : goal.loop-piece-init
loop-piece-init c = record { stands = c.requires.stands; awaits = c.requires.awaits; free = c.requires.free }

pub feed-requires-clause-follows : goal.feed-requires-clause-follows
feed-requires-clause-follows c = inl (c.loop-piece.invariant.free _)

pub next_data-requires-clause-follows : goal.next_data-requires-clause-follows
next_data-requires-clause-follows c =
    subst UnreadFollows (sym (c.in_ok-feed.ensures.fed c.loop-piece.invariant.stands.2.goes_on)) (inl (c.loop-piece.invariant.free _))
