-- The initial theory.
use Rattle.mw_theory.proofs.CallerLemmas.{held}
use Rattle.mw_kernel.proofs.kernel.Kernel.new.Goals as goal

pub returns-clause-sound : goal.returns-clause-sound
returns-clause-sound c = (held _ _ _ _ c.in_ok-world.ensures.world).sound
