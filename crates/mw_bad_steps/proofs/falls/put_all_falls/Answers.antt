-- The premises of the next case are put.
use Rattle.std.proofs.Common.{◌++◌, map, sym, ap, ◌∙◌, subst}
use Rattle.mw_model.specs.Terms.Object.{car, cdr, NIL}
use Rattle.mw_model.specs.Laws.RulesInduction.{falls_object, all_falls_object}
use Rattle.mw_heap.specs.Objects.{object_at}
use Rattle.mw_heap.proofs.Objects.{Grows-trans}
use Rattle.mw_bad_steps.specs.Members.{members_in}
use Rattle.mw_bad_steps.specs.Premises.{PutsObjects}
use Rattle.mw_bad_steps.proofs.PremisesPut.{put_others, first_in, next_case, next_falls, same_falls}
use Rattle.mw_bad_steps.proofs.falls.put_all_falls.Goals as goal

pub put_falls-requires-clause-substitutions : goal.put_falls-requires-clause-substitutions
put_falls-requires-clause-substitutions c =
    let inv = c.loop-condition.invariant in
    first_in c.args.heap.now.objects c.loop-condition.heap.objects inv.grows c.loop-condition.left _ _ _ inv.left.cases_in c.requires.cases.nil_in c.first_and_rest-substitutions.ensures.below

pub loop-condition-preserved : goal.loop-condition-preserved
loop-condition-preserved c =
    let os = c.args.heap.now.objects in
    let cur = c.loop-condition.heap.objects in
    let new = c.put_falls.new.heap.objects in
    let inv = c.loop-condition.invariant in
    let shown = c.in-Pair.ensures in
    let split = c.first_and_rest-substitutions.ensures in
    let m = object_at os c.args.measure in
    let y = object_at os c.loop-condition.left in
    let items = c.loop-condition.premises.items in
    let has = c.put_falls.new.premises.items in
    let case = next_case os cur inv.grows c.loop-condition.conditions c.loop-condition.left c.in-Pair.condition c.in-Pair.more _ _ _ inv.left shown.below.0 shown.below.1 shown.shows.2 c.requires.cases.nil_in split.below split.first split.rest in
    let xs = members_in (falls_object m (object_at os c.in-Pair.condition) (car y) NIL) in
    let ys = members_in (all_falls_object m (object_at os c.in-Pair.more) (cdr y)) in
    let next = ap (λ l. map (object_at cur) items ++ l) (sym (next_falls m _ _ _ y case.conditions_are)) ∙ inv.same in
    let puts = subst (PutsObjects cur new items has) (same_falls os cur inv.grows c.args.measure _ _ (car y) c.requires.within case.condition_in case.substitutions_are) c.in_ok-put_falls.ensures.put in
    let put = put_others cur new items has xs ys _ puts next in
    record {
      grows = Grows-trans _ _ _ inv.grows c.in_ok-put_falls.ensures.grows;
      left = case.left;
      within = put.0;
      same = ap (λ z. map (object_at new) has ++ members_in (all_falls_object m (object_at os c.in-Pair.more) z)) case.cases_are ∙ put.1;
    }
