-- The premise of the next case is put.
use Rattle.std.proofs.Common.{◌++◌, map, All, sym, ap, ◌∙◌, subst}
use Rattle.mw_model.specs.Terms.Object.{car, cdr, NIL}
use Rattle.mw_model.specs.Laws.RulesInduction.{steps_object}
use Rattle.mw_heap.specs.Objects.{object_at, IsIn}
use Rattle.mw_heap.proofs.Objects.{Grows-trans}
use Rattle.mw_bad_steps.specs.Members.{members_in}
use Rattle.mw_bad_steps.proofs.PremisesPut.{step_object, put_next, first_in, next_case, same_step}
use Rattle.mw_bad_steps.proofs.premises.put_steps.Goals as goal

pub step-requires-clause-substitutions : goal.step-requires-clause-substitutions
step-requires-clause-substitutions c =
    let inv = c.loop-condition.invariant in
    first_in c.args.heap.now.objects c.loop-condition.heap.objects inv.grows c.loop-condition.left _ _ _ inv.left.cases_in c.requires.cases.nil_in c.first_and_rest-substitutions.ensures.below

pub loop-condition-preserved : goal.loop-condition-preserved
loop-condition-preserved c =
    let os = c.args.heap.now.objects in
    let cur = c.loop-condition.heap.objects in
    let new = c.step.new.heap.objects in
    let inv = c.loop-condition.invariant in
    let shown = c.in-Pair.ensures in
    let split = c.first_and_rest-substitutions.ensures in
    let a = object_at os c.args.a in
    let y = object_at os c.loop-condition.left in
    let items = c.loop-condition.premises.items in
    let made = c.in_ok-made in
    let case = next_case os cur inv.grows c.loop-condition.conditions c.loop-condition.left c.in-Pair.condition c.in-Pair.more _ _ _ inv.left shown.below.0 shown.below.1 shown.shows.2 c.requires.cases.nil_in split.below split.first split.rest in
    let rest = steps_object a (object_at os c.in-Pair.more) (cdr y) NIL in
    let next = ap (λ z. map (object_at cur) items ++ members_in (steps_object a z y NIL)) (sym case.conditions_are) ∙ inv.same in
    let is = made.ensures.made ∙ same_step os cur inv.grows c.args.a _ _ (car y) c.requires.within case.condition_in case.substitutions_are in
    let put = put_next cur new items made.made (step_object a (object_at os c.in-Pair.condition) (car y)) (members_in rest) _ made.ensures.grows inv.within next made.ensures.within is in
    record {
      grows = Grows-trans _ _ _ inv.grows made.ensures.grows;
      left = case.left;
      within = subst (All (IsIn new)) (sym c.in_ok-push.ensures.items) put.0;
      same =
          ap (λ z. map (object_at new) c.push.new.self.items ++ members_in (steps_object a (object_at os c.in-Pair.more) z NIL)) case.cases_are
          ∙ (ap (λ l. map (object_at new) l ++ members_in rest) c.in_ok-push.ensures.items ∙ put.1);
    }
