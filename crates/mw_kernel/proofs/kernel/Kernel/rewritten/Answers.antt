-- The heap grows, and the marks with it.
use Rattle.std.proofs.Common.{ap, ◌∙◌}
use Rattle.mw_kernel.specs.Knowledge.{theory_of}
use Rattle.mw_theory.proofs.CallerLemmas.{held, grown-marked, grown_theory}
use Rattle.mw_kernel.proofs.Told.{looked}
use Rattle.mw_kernel.proofs.kernel.Kernel.rewritten.Goals as goal

pub rewritten-requires-clause-stands : goal.rewritten-requires-clause-stands
rewritten-requires-clause-stands g c = record { held = held _ _ _ _ c.allow_looks.ensures.world; marked = c.allow_looks.ensures.world.marked }

pub invariant_of-self : goal.invariant_of-self
invariant_of-self g c = grown-marked _ _ _ _ c.allow_looks.ensures.world c.rewritten.new.heap.objects c.rewritten.ensures.kept.grows c.rewritten.new.marks c.rewritten.ensures.kept.marked

pub returns-clause-theory : goal.returns-clause-theory
returns-clause-theory g c =
    grown_theory _ _ _ _ c.allow_looks.ensures.world c.rewritten.new.heap.objects c.rewritten.ensures.kept.grows
    ∙ ap theory_of (looked c.self.inside.world c.allow_looks.new.self c.self.inside.checker.steps c.allow_looks.ensures.objects c.allow_looks.ensures.rest ∙ c.self.view_is)
