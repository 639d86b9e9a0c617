-- The reader is ready after each call.
use Rattle.mw_tests_text.proofs.read.answers_a_fault.Goals as goal

pub next-first-requires : goal.next-first-requires
next-first-requires c = record { ready = c.feed.ensures.ready _ (c.new-reader.ensures.ready _) }

pub next-second-requires : goal.next-second-requires
next-second-requires c = record { ready = c.next-first.ensures.ready }

pub next-third-requires : goal.next-third-requires
next-third-requires c = record { ready = c.finish.ensures.ready _ c.next-second.ensures.ready }
