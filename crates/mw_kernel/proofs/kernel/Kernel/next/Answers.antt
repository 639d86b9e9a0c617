-- The heap grows.
use Rattle.std.proofs.Common.{ap, ◌∙◌}
use Rattle.mw_kernel.specs.Knowledge.{theory_of}
use Rattle.mw_theory.proofs.CallerLemmas.{grown, grown_theory}
use Rattle.mw_kernel.proofs.kernel.Kernel.next.Goals as goal

pub invariant_of-self : goal.invariant_of-self
invariant_of-self c = grown _ _ _ _ c.self.invariant c.next.new.heap.objects c.next.ensures.grows

pub returns-clause-theory : goal.returns-clause-theory
returns-clause-theory c = grown_theory _ _ _ _ c.self.invariant c.next.new.heap.objects c.next.ensures.grows ∙ ap theory_of c.self.view_is
