-- The laws of what is written, of tautologies, of proofs, of derivations and of truth, put together.
use Rattle.mw_answers.proofs.Promising.{whole, begun}
use Rattle.mw_answers.proofs.promise.answers_promised.Goals as goal

pub returns-clause-whole : goal.returns-clause-whole
returns-clause-whole c =
    whole (c.labelled_texts_are_read.ensures.read, c.labelled_texts_are_read.ensures.compact) c.tautologies_have_proofs.ensures c.tautologies_again.ensures c.reached_sound.ensures.events
    c.lowerings_possible.ensures.lowered c.lowerings_again.ensures.again c.slices.ensures.some c.slices_again.ensures c.flattenings_possible.ensures c.flattenings_again.ensures c.lowerings_again.ensures.theory c.logs_keep.ensures.entered
    c.explanations_possible.ensures c.explanations_again.ensures.again c.explanations_again.ensures.status

pub returns-clause-begun : goal.returns-clause-begun
returns-clause-begun c =
    begun (c.labelled_texts_are_read.ensures.read, c.labelled_texts_are_read.ensures.compact) c.tautologies_have_proofs.ensures c.tautologies_again.ensures c.reached_sound.ensures.events
    c.lowerings_possible.ensures.lowered c.lowerings_again.ensures.again c.slices.ensures.some c.slices_again.ensures c.flattenings_possible.ensures c.flattenings_again.ensures c.lowerings_again.ensures.theory c.logs_keep.ensures.entered
    c.explanations_possible.ensures c.explanations_again.ensures.again c.explanations_again.ensures.status
