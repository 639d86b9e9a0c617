-- The call equals its value, quoted.
use Rattle.std.proofs.Common.{ap₂, ◌∙◌, subst}
use Rattle.mw_model.specs.Laws.Rules.{equal_object}
use Rattle.mw_heap.specs.Objects.{object_at}
use Rattle.mw_heap.specs.Variants.{profile_of}
use Rattle.mw_heap.proofs.Objects.{Grows-trans, object_at-Grows}
use Rattle.mw_bad_steps.specs.Candidates.{IsValue, value_of_call}
use Rattle.mw_bad_steps.proofs.ComputedValues.{nothing_computed, one_computed}
use Rattle.mw_bad_steps.proofs.computed.computed.Goals as goal

pub returns-in_default-clause-meant : goal.returns-in_default-clause-meant
returns-in_default-clause-meant c = λ A F i e. nothing_computed (profile_of c.args.profile) c.args.heap.now.objects F (object_at c.args.heap.now.objects c.args.conclusion) e c.in_default.ensures.members

pub returns-clause-meant : goal.returns-clause-meant
returns-clause-meant c = λ A F i e.
    let os = c.args.heap.now.objects in
    let old = c.call_value.new.heap.objects in
    let mid = c.quoted.new.heap.objects in
    let new = c.equal.new.heap.objects in
    let P = profile_of c.args.profile in
    let here = object_at-Grows os mid (Grows-trans os old mid c.in_ok-value.ensures.grows c.in_ok-constant.ensures.grows) _ c.in-Some.ensures.within.0 in
    one_computed P new os A F c.args.conclusion _ _ i e c.in-Some.ensures.members old c.in-Some-2.value c.in_ok-equal.field-0 (λ B t j d. subst (IsValue old (value_of_call P t)) c.in-Some-2.is (c.in_ok-value.ensures.value B t j d)) c.in_ok-equal.ensures.within
    (c.in_ok-equal.ensures.made ∙ ap₂ equal_object here c.in_ok-constant.ensures.made)
