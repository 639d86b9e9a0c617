-- A look changes no object, so that what holds of the heap holds after it.
use Rattle.std.proofs.Common.{sym, subst}
use Rattle.mw_heap.specs.Objects.{Grows}
use Rattle.mw_subst.specs.Sigma.{sigma_object, AreIn}
use Rattle.mw_subst.specs.Memo.{AreMade}
use Rattle.mw_subst.proofs.walk.advance.Goals as goal

pub take_step-requires-clause-sigma : goal.take_step-requires-clause-sigma
take_step-requires-clause-sigma g c = subst (λ os. AreIn os c.args.sigma.now) (sym c.in_ok-take_look.ensures) c.requires.sigma

pub take_step-requires-clause-made : goal.take_step-requires-clause-made
take_step-requires-clause-made g c = subst (λ os. AreMade os (sigma_object os c.args.sigma.now) c.args.memo.now.terms c.args.memo.now.lists) (sym c.in_ok-take_look.ensures) c.requires.made

pub returns-then-is_new-clause-grows : goal.returns-then-is_new-clause-grows
returns-then-is_new-clause-grows g c = subst (λ os. Grows os c.take_step.new.heap.objects) c.in_ok-take_look.ensures c.take_step.ensures.grows

pub returns-else-is_new-clause-grows : goal.returns-else-is_new-clause-grows
returns-else-is_new-clause-grows g c = subst (λ os. Grows os c.take_step.new.heap.objects) c.in_ok-take_look.ensures c.take_step.ensures.grows

pub returns-in_ok-add-in-Made-clause-grows : goal.returns-in_ok-add-in-Made-clause-grows
returns-in_ok-add-in-Made-clause-grows g c = subst (λ os. Grows os c.take_step.new.heap.objects) c.in_ok-take_look.ensures c.take_step.ensures.grows

pub returns-in_err-add-in-Made-clause-grows : goal.returns-in_err-add-in-Made-clause-grows
returns-in_err-add-in-Made-clause-grows g c = subst (λ os. Grows os c.take_step.new.heap.objects) c.in_ok-take_look.ensures c.take_step.ensures.grows
