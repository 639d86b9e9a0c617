-- The first pair for a variable counts.
use Rattle.std.proofs.Common.{sym, ap, ◌∙◌}
use Rattle.mw_heap.specs.Objects.{object_at}
use Rattle.mw_subst.proofs.SigmaObject.{image_of, image_of-term_for, term_for-in}
use Rattle.mw_subst.proofs.walk.image.Goals as goal

pub returns-in-Some-clause-within : goal.returns-in-Some-clause-within
returns-in-Some-clause-within c = term_for-in c.args.heap.now.objects c.args.x c.in-Some.term c.args.sigma.now c.requires.sigma (sym c.find.ensures ∙ c.in-Some.is)

pub returns-in-Some-clause-image : goal.returns-in-Some-clause-image
returns-in-Some-clause-image c =
    sym (ap (λ o. object_at c.args.heap.now.objects (image_of o c.args.x)) (sym c.find.ensures ∙ c.in-Some.is))
    ∙ image_of-term_for c.args.heap.now.objects c.order.ensures.distinct c.args.x c.requires.within c.args.sigma.now c.requires.sigma

pub returns-in-None-clause-image : goal.returns-in-None-clause-image
returns-in-None-clause-image c =
    sym (ap (λ o. object_at c.args.heap.now.objects (image_of o c.args.x)) (sym c.find.ensures ∙ c.in-None.is))
    ∙ image_of-term_for c.args.heap.now.objects c.order.ensures.distinct c.args.x c.requires.within c.args.sigma.now c.requires.sigma
