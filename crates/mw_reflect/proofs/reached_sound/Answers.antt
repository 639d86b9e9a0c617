-- The lemmas of EachLevel.
use Rattle.mw_reflect.proofs.EachLevel.{judges_truly, every_event, every_theory, never_nil}
use Rattle.mw_reflect.proofs.reached_sound.Goals as goal

pub returns-clause-judges : goal.returns-clause-judges
returns-clause-judges c = λ t N s. judges_truly t s N

pub returns-clause-events : goal.returns-clause-events
returns-clause-events c = every_event

pub returns-clause-sound : goal.returns-clause-sound
returns-clause-sound c = every_theory

pub returns-clause-consistent : goal.returns-clause-consistent
returns-clause-consistent c = never_nil
