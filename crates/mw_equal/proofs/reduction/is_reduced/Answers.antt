-- The cell is compared with the body under the substitution of the arguments.
use Rattle.std.proofs.Common.{◌≡◌, sym, ap₂, ◌∙◌, subst}
use Rattle.std.specs.Prelude.{IfOk}
use Rattle.std.proofs.lemmas.Result.{IfOk-weaker}
use Rattle.mw_model.specs.Terms.Object.{same_object, second_of}
use Rattle.mw_model.specs.Laws.Rules.{substitute_object, actuals_object}
use Rattle.mw_model.proofs.SameObject.{same_object-swap}
use Rattle.mw_heap.specs.Objects.{object_at, IsIn, Grows}
use Rattle.mw_heap.proofs.Objects.{IsIn-Grows, object_at-Grows}
use Rattle.mw_subst.specs.Sigma.{sigma_object, AreIn}
use Rattle.mw_equal.proofs.reduction.is_reduced.Goals as goal

pub returns-clause-reduced : goal.returns-clause-reduced
returns-clause-reduced c =
    let old = c.args.heap.now.objects in
    let new = c.present.new.heap.objects in
    let grows = c.in_ok-body.ensures.grows in
    let sigma = c.in_ok-sigma.sigma in
    let body = c.in_ok-body.body in
    let function = object_at-Grows old new grows c.args.function c.requires.within in
    let arguments = object_at-Grows old new grows c.args.arguments c.requires.arguments_within in
    let cell = object_at-Grows old new grows c.args.x c.requires.reduced_within in
    let actuals = c.in_ok-sigma.ensures.actuals ∙ ap₂ (λ f a. actuals_object (second_of f) a) function arguments in
    let is = ap₂ substitute_object actuals (c.in_ok-body.ensures.made.1 ∙ c.third_of.ensures.value) in
    let compared = subst (λ h. IfOk c.is_instance.result (λ b. b ≡ same_object (substitute_object (sigma_object h sigma) (object_at h body)) (object_at h c.args.x))) c.actuals_of.ensures.objects c.is_instance.ensures.instance in
    IfOk-weaker c.is_instance.result _ _ (λ b e. e ∙ (same_object-swap _ (object_at new c.args.x) ∙ ap₂ same_object cell is)) compared

pub actuals_of-requires-clause-within : goal.actuals_of-requires-clause-within
actuals_of-requires-clause-within c = IsIn-Grows _ _ c.in_ok-body.ensures.grows c.args.function c.requires.within

pub actuals_of-requires-clause-arguments_within : goal.actuals_of-requires-clause-arguments_within
actuals_of-requires-clause-arguments_within c = IsIn-Grows _ _ c.in_ok-body.ensures.grows c.args.arguments c.requires.arguments_within

pub is_instance-requires-clause-within : goal.is_instance-requires-clause-within
is_instance-requires-clause-within c = subst (λ h. IsIn h c.in_ok-body.body) (sym c.in_ok-sigma.ensures.objects) c.in_ok-body.ensures.made.0

pub is_instance-requires-clause-sigma : goal.is_instance-requires-clause-sigma
is_instance-requires-clause-sigma c = subst (λ h. AreIn h c.in_ok-sigma.sigma) (sym c.in_ok-sigma.ensures.objects) c.in_ok-sigma.ensures.within

pub is_instance-requires-clause-instance : goal.is_instance-requires-clause-instance
is_instance-requires-clause-instance c = subst (λ h. IsIn h c.args.x) (sym c.in_ok-sigma.ensures.objects) (IsIn-Grows _ _ c.in_ok-body.ensures.grows c.args.x c.requires.reduced_within)

pub returns-in_err-sigma-clause-grows : goal.returns-in_err-sigma-clause-grows
returns-in_err-sigma-clause-grows c = subst (Grows c.args.heap.now.objects) (sym c.in_err-sigma.ensures.objects) c.in_ok-body.ensures.grows

pub returns-clause-grows : goal.returns-clause-grows
returns-clause-grows c = subst (Grows c.args.heap.now.objects) (sym (c.is_instance.ensures.objects ∙ c.in_ok-sigma.ensures.objects)) c.in_ok-body.ensures.grows
