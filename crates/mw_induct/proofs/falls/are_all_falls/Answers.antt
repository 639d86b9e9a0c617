-- One case after another, over the heap at the start.
use Rattle.std.proofs.Common.{◌≡◌, false, All, length, take, ◌-◌, drop, sym, ap, ◌∙◌, subst, arith, length-drop}
use Rattle.mw_model.specs.Terms.Object.{same_object}
use Rattle.mw_model.specs.Values.Primitive.{is_pair}
use Rattle.mw_heap.specs.Objects.{object_at, IsIn}
use Rattle.mw_heap.proofs.NoPair.{shown_no_pair}
use Rattle.mw_induct.specs.Conclusions.{conclusions_object}
use Rattle.mw_induct.specs.Pairs.{AreSubstitutionsIn}
use Rattle.mw_induct.proofs.Forms.{all_falls_end}
use Rattle.mw_induct.proofs.NextCases.{next_case, falls_taken, falls_refused}
use Rattle.mw_induct.proofs.Rests.{all_taken, All-from}
use Rattle.mw_induct.proofs.falls.are_all_falls.Goals as goal

pub returns-in-None-clause-falls : goal.returns-in-None-clause-falls
returns-in-None-clause-falls c =
    let i = c.loop-condition.invariant in
    let n = next_case c.args.heap.now.objects c.loop-condition.heap.objects i.0 c.loop-condition.conditions c.loop-condition.cases _ _ _ _ i.1 c.in-Pair.ensures.shows c.in-Pair-view.ensures.shows in
    sym (i.3 ∙ falls_refused c.args.heap.now.objects c.loop-condition.heap.objects i.0 _ _ _ _ _ _ n c.args.scheme.now.measure c.args.conclusions.now c.loop-condition.taken _ c.in_ok-count.ensures.falls c.in-None.is)

pub loop-condition-preserved : goal.loop-condition-preserved
loop-condition-preserved c =
    let i = c.loop-condition.invariant in
    let n = next_case c.args.heap.now.objects c.loop-condition.heap.objects i.0 c.loop-condition.conditions c.loop-condition.cases _ _ _ _ i.1 c.in-Pair.ensures.shows c.in-Pair-view.ensures.shows in
    let some = falls_taken c.args.heap.now.objects c.loop-condition.heap.objects i.0 _ _ _ _ _ _ n c.args.scheme.now.measure c.args.conclusions.now c.loop-condition.taken _ c.in_ok-count.ensures.falls c.in-Some.count c.in-Some.is in (
      c.in_ok-count.ensures.objects ∙ i.0,
      n.rest,
      omega (arith, some.0, length-drop c.loop-condition.taken c.args.conclusions.now, i.2),
      i.3 ∙ some.1,
    )

pub returns : goal.returns
returns c =
    let os = c.args.heap.now.objects in
    let o = object_at os in
    let i = c.loop-condition.invariant in
    let taken = c.loop-condition.taken in
    let ps = c.args.conclusions.now in
    let end = subst (λ h. is_pair (object_at h c.loop-condition.conditions) ≡ false) i.0 (shown_no_pair c.loop-condition.heap.objects c.view.result _ c.view.ensures.shows c.in_default.not-Pair) in
    record { objects = i.0; falls = all_taken os ps taken i.2 ∙ (ap (same_object (conclusions_object os (drop taken ps))) (sym (all_falls_end (o c.args.scheme.now.measure) (o c.loop-condition.conditions) (o c.loop-condition.cases) end)) ∙ sym i.3) }

pub take_falls-requires-clause-conclusions : goal.take_falls-requires-clause-conclusions
take_falls-requires-clause-conclusions c =
    let os = c.args.heap.now.objects in
    let ps = c.args.conclusions.now in
    let n = c.loop-condition.taken in
    subst (λ h. All (IsIn h) (take (length ps - n) (drop n ps))) (sym c.loop-condition.invariant.0) (All-from (IsIn os) n ps c.requires.conclusions)

pub take_falls-requires-clause-substitutions : goal.take_falls-requires-clause-substitutions
take_falls-requires-clause-substitutions c =
    let i = c.loop-condition.invariant in
    let n = next_case c.args.heap.now.objects c.loop-condition.heap.objects i.0 c.loop-condition.conditions c.loop-condition.cases _ _ _ _ i.1 c.in-Pair.ensures.shows c.in-Pair-view.ensures.shows in
    subst (λ h. AreSubstitutionsIn h c.in-Pair-view.substitutions) (sym i.0) n.substitutions

pub take_falls-requires-clause-measure : goal.take_falls-requires-clause-measure
take_falls-requires-clause-measure c = subst (λ os. IsIn os c.args.scheme.now.measure) (sym c.loop-condition.invariant.0) c.requires.scheme.measure
