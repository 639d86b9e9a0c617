-- The heap grows.
use Rattle.std.proofs.Common.{sym, ap, ◌∙◌, subst}
use Rattle.mw_flat.specs.Going.{theory_of, HasCollected}
use Rattle.mw_flat.proofs.Goings.{theory-grows, collected-grows, going-grows}
use Rattle.mw_flat.proofs.flat.Flat.step.Goals as goal

pub returns-clause-theory : goal.returns-clause-theory
returns-clause-theory c = theory-grows c.self.inside.world c.self.inside.collected c.self.invariant c.step.new.heap.objects c.step.ensures.grows ∙ ap theory_of c.self.view_is

pub returns-clause-collected : goal.returns-clause-collected
returns-clause-collected c = λ steps h.
    collected-grows c.self.inside.world c.self.inside.collected c.self.invariant c.step.new.heap.objects c.step.ensures.grows steps (subst (λ g. HasCollected g steps) (sym c.self.view_is) h)

pub invariant_of-self : goal.invariant_of-self
invariant_of-self c = going-grows c.self.inside.world c.self.inside.collected c.self.invariant c.step.new.heap c.step.ensures.grows
