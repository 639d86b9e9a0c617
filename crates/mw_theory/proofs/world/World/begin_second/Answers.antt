-- The initial theory of the second profile, or the same theory.
use Rattle.std.proofs.Common.{◌∙◌}
use Rattle.mw_theory.proofs.Held.{grown, grown_theory}
use Rattle.mw_theory.proofs.Results.{OnErr-from}
use Rattle.mw_theory.proofs.world.World.begin_second.Goals as goal

pub returns-in_err-theory-clause-world : goal.returns-in_err-theory-clause-world
returns-in_err-theory-clause-world c = grown _ _ _ _ c.requires.world c.begin.new.heap.objects c.begin.ensures.grows

pub returns-in_err-theory-clause-err : goal.returns-in_err-theory-clause-err
returns-in_err-theory-clause-err c = OnErr-from _ _ (grown_theory _ _ _ _ c.requires.world c.begin.new.heap.objects c.begin.ensures.grows)

pub returns-clause-theory : goal.returns-clause-theory
returns-clause-theory c = c.go_on_with.ensures.theory ∙ c.in_ok-theory.ensures.theory
