-- The laws, from the lemmas of Reached.
use Rattle.mw_model.specs.Values.Primitive.{One}
use Rattle.mw_model.specs.Events.Theory.{initial}
use Rattle.mw_model.specs.Events.Fate.{after}
use Rattle.mw_truth.proofs.Reached.{initial_sound, each_keeps, reached_sound, sound_consistent}
use Rattle.mw_truth.proofs.soundness.reached_sound.Goals as goal

pub returns-clause-events : goal.returns-clause-events
returns-clause-events c = λ es N b. each_keeps (initial One) es N (initial_sound One) b

pub returns-clause-sound : goal.returns-clause-sound
returns-clause-sound c = reached_sound

pub returns-clause-consistent : goal.returns-clause-consistent
returns-clause-consistent c = λ es N b. sound_consistent (after (initial One) es N) (reached_sound es N b)
