-- The body is that of the function, also where the heap has grown.
use Rattle.std.proofs.Common.{◌≡◌, sym, ap₂, ◌∙◌, subst}
use Rattle.std.specs.Prelude.{IfOk, Result, Ok, Err}
use Rattle.std.proofs.lemmas.Result.{IfOk-weaker}
use Rattle.mw_model.specs.Terms.Object.{second_of}
use Rattle.mw_model.specs.Laws.Rules.{substitute_object, actuals_object}
use Rattle.mw_heap.specs.Objects.{object_at, IsIn, Grows}
use Rattle.mw_heap.proofs.Objects.{Grows-trans, IsIn-Grows, object_at-Grows}
use Rattle.mw_subst.specs.Sigma.{sigma_object, AreIn}
use Rattle.mw_equal.proofs.reduction.reduced.Goals as goal

both : {T E : Type 0} (r : Result T E) (P Q : T → Type 0) → IfOk r P → IfOk r Q → IfOk r (λ x. P x × Q x)
both (Ok x) P Q p q = (p, q)
both (Err e) P Q p q = tt

pub actuals_of-requires-clause-within : goal.actuals_of-requires-clause-within
actuals_of-requires-clause-within c = IsIn-Grows _ _ c.in_ok-body.ensures.grows c.args.function c.requires.within

pub actuals_of-requires-clause-arguments_within : goal.actuals_of-requires-clause-arguments_within
actuals_of-requires-clause-arguments_within c = IsIn-Grows _ _ c.in_ok-body.ensures.grows c.args.arguments c.requires.arguments_within

pub substitute-requires-clause-within : goal.substitute-requires-clause-within
substitute-requires-clause-within c = subst (λ h. IsIn h c.in_ok-body.body) (sym c.in_ok-sigma.ensures.objects) c.in_ok-body.ensures.made.0

pub substitute-requires-clause-sigma : goal.substitute-requires-clause-sigma
substitute-requires-clause-sigma c = subst (λ h. AreIn h c.in_ok-sigma.sigma) (sym c.in_ok-sigma.ensures.objects) c.in_ok-sigma.ensures.within

pub returns-in_err-sigma-clause-grows : goal.returns-in_err-sigma-clause-grows
returns-in_err-sigma-clause-grows c = subst (Grows c.args.heap.now.objects) (sym c.in_err-sigma.ensures.objects) c.in_ok-body.ensures.grows

pub returns-clause-grows : goal.returns-clause-grows
returns-clause-grows c =
    Grows-trans _ _ _ c.in_ok-body.ensures.grows (subst (λ h. Grows h c.substitute.new.heap.objects) c.in_ok-sigma.ensures.objects c.substitute.ensures.grows)

pub returns-clause-reduced : goal.returns-clause-reduced
returns-clause-reduced c =
    let old = c.args.heap.now.objects in
    let new = c.present.new.heap.objects in
    let last = c.substitute.new.heap.objects in
    let grows = c.in_ok-body.ensures.grows in
    let sigma = c.in_ok-sigma.sigma in
    let body = c.in_ok-body.body in
    let function = object_at-Grows old new grows c.args.function c.requires.within in
    let arguments = object_at-Grows old new grows c.args.arguments c.requires.arguments_within in
    let actuals = c.in_ok-sigma.ensures.actuals ∙ ap₂ (λ f a. actuals_object (second_of f) a) function arguments in
    let is = ap₂ substitute_object actuals (c.in_ok-body.ensures.made.1 ∙ c.third_of.ensures.value) in
    let made = subst (λ h. IfOk c.substitute.result (λ r. object_at last r ≡ substitute_object (sigma_object h sigma) (object_at h body))) c.in_ok-sigma.ensures.objects c.substitute.ensures.made in
    both c.substitute.result _ _ c.substitute.ensures.within (IfOk-weaker c.substitute.result _ _ (λ r e. e ∙ is) made)
