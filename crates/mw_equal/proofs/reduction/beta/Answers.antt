-- The parts of the call and the right side are there, also where the heap has grown.
use Rattle.std.proofs.Common.{sym, ap, ap₂, ◌∙◌}
use Rattle.std.proofs.lemmas.Result.{IfOk-weaker}
use Rattle.mw_model.specs.Terms.Object.{Pair}
use Rattle.mw_heap.specs.Objects.{object_at}
use Rattle.mw_heap.specs.Parts.{part_at}
use Rattle.mw_heap.proofs.Objects.{Grows-trans, IsIn-Grows, object_at-Grows}
use Rattle.mw_equal.proofs.BetaShapes.{beta_of_call}
use Rattle.mw_equal.proofs.reduction.beta.Goals as goal

pub is_reduced-requires-clause-within : goal.is_reduced-requires-clause-within
is_reduced-requires-clause-within c = IsIn-Grows _ _ c.in_ok-right.ensures.grows _ c.in-Pair.ensures.shows.0

pub is_reduced-requires-clause-arguments_within : goal.is_reduced-requires-clause-arguments_within
is_reduced-requires-clause-arguments_within c = IsIn-Grows _ _ c.in_ok-right.ensures.grows _ c.in-Pair.ensures.shows.1

pub is_reduced-requires-clause-reduced_within : goal.is_reduced-requires-clause-reduced_within
is_reduced-requires-clause-reduced_within c = c.in_ok-right.ensures.made.0

pub returns-clause-grows : goal.returns-clause-grows
returns-clause-grows c = Grows-trans _ _ _ c.in_ok-right.ensures.grows c.is_reduced.ensures.grows

pub returns-clause-answer : goal.returns-clause-answer
returns-clause-answer c =
    let old = c.args.heap.now.objects in
    let grows = c.in_ok-right.ensures.grows in
    let call = c.in-Pair.ensures.shows in
    let function = object_at-Grows _ _ grows _ call.0 in
    let arguments = object_at-Grows _ _ grows _ call.1 in
    let left = sym c.in-Some.ensures.parts.0 ∙ (ap (part_at old) c.in-Some-call.is ∙ (call.2 ∙ sym (ap₂ Pair function arguments))) in
    let right = sym c.in-Some.ensures.parts.1 ∙ sym c.in_ok-right.ensures.made.1 in
    IfOk-weaker c.is_reduced.result _ _
    (λ b e. e ∙ beta_of_call (object_at old c.args.conclusion) _ _ _ _ _ c.in-Some.ensures.equal left (function ∙ c.in-Pair-view.ensures.shows.2) right)
    c.is_reduced.ensures.reduced
