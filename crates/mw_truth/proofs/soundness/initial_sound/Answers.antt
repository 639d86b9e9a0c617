-- The law is the lemma of Reached.
use Rattle.mw_truth.proofs.Reached.{initial_sound}
use Rattle.mw_truth.proofs.soundness.initial_sound.Goals as goal

pub returns : goal.returns
returns c = initial_sound
