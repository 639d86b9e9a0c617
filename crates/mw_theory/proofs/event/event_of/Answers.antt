-- By the word, and then by the members.
use Rattle.std.proofs.Common.{ap, ◌∙◌}
use Rattle.mw_model.specs.Events.Fate.{event_word}
use Rattle.mw_heap.specs.Objects.{object_at}
use Rattle.mw_theory.proofs.EventWords.{no_event_word, no_word_at, event_from}
use Rattle.mw_theory.proofs.event.event_of.Goals as goal

pub returns-in-None-clause-event : goal.returns-in-None-clause-event
returns-in-None-clause-event c =
    let os = c.args.heap.now.objects in
    ap event_word c.in-Pair.ensures.shows.2 ∙ no_event_word (object_at os c.in-Pair.first) (object_at os c.in-Pair.members) (no_word_at (object_at os c.in-Pair.first) c.in-None.ensures)

pub returns-in-Some-clause-event : goal.returns-in-Some-clause-event
returns-in-Some-clause-event c =
    event_from c.args.heap.now.objects c.in-Some.word c.args.x c.in-Pair.first c.in-Pair.members c.event_with.result c.in-Pair.ensures.shows.2 c.in-Some.ensures c.in-Pair.ensures.below.1 c.event_with.ensures
