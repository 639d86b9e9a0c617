-- The call equals what it is reduced to.
use Rattle.std.proofs.Common.{sym, ap, ap₂, ◌∙◌}
use Rattle.mw_model.specs.Terms.Object.{car}
use Rattle.mw_model.specs.Values.Primitive.{is_pair}
use Rattle.mw_model.specs.Laws.Rules.{beta_object, equal_object}
use Rattle.mw_heap.specs.Objects.{object_at}
use Rattle.mw_heap.proofs.Objects.{object_at-Grows}
use Rattle.mw_bad_steps.proofs.ComputedValues.{nothing_reduced, lambda_reduced}
use Rattle.mw_bad_steps.proofs.computed.beta.Goals as goal

pub returns-in_default-clause-meant : goal.returns-in_default-clause-meant
returns-in_default-clause-meant c = λ A F i e. nothing_reduced c.args.heap.now.objects c.args.heap.now.objects F (object_at c.args.heap.now.objects c.args.conclusion) e c.in_default.ensures.members

pub returns-clause-meant : goal.returns-clause-meant
returns-clause-meant c = λ A F i e.
    let os = c.args.heap.now.objects in
    let mid = c.reduced.new.heap.objects in
    let new = c.equal.new.heap.objects in
    let shows = c.in-Pair.ensures.shows in
    let pair = ap (λ y. is_pair (car y)) shows.2 ∙ ap is_pair c.in-Pair-view.ensures.shows.2 in
    let here = object_at-Grows os mid c.in_ok-made.ensures.grows _ c.in-Some.ensures.within.0 in
    let made = c.in_ok-made.ensures.reduced.1 ∙ sym (ap beta_object shows.2) in
    lambda_reduced os new A F c.args.conclusion _ _ i e c.in-Some.ensures.members c.in_ok-equal.field-0 pair c.in_ok-equal.ensures.within (c.in_ok-equal.ensures.made ∙ ap₂ equal_object here made)
