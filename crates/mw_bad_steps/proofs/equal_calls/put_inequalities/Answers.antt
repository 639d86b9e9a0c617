-- The next inequality is put.
use Rattle.std.proofs.Common.{◌++◌, map, All, sym, ap, ap₂, ◌∙◌, subst}
use Rattle.mw_model.specs.Laws.Rules.{equal_object, not_object}
use Rattle.mw_heap.specs.Objects.{object_at, IsIn}
use Rattle.mw_heap.proofs.Objects.{object_at-Grows, Grows-trans}
use Rattle.mw_bad_steps.specs.Candidates.{inequalities_in}
use Rattle.mw_bad_steps.proofs.PremisesPut.{put_next, next_part}
use Rattle.mw_bad_steps.proofs.EqualCalls.{next_inequality}
use Rattle.mw_bad_steps.proofs.equal_calls.put_inequalities.Goals as goal

pub loop-a-preserved : goal.loop-a-preserved
loop-a-preserved c =
    let os = c.args.heap.now.objects in
    let cur = c.loop-a.heap.objects in
    let new = c.inequality.new.heap.objects in
    let inv = c.loop-a.invariant in
    let a = c.in-Pair.a in
    let more = c.in-Pair.more in
    let b = c.in-Pair-view.b in
    let others = c.in-Pair-view.others in
    let items = c.loop-a.members.items in
    let one = next_part os cur inv.grows c.loop-a.firsts a more inv.firsts_in c.in-Pair.ensures.below.0 c.in-Pair.ensures.below.1 c.in-Pair.ensures.shows.2 in
    let two = next_part os cur inv.grows c.loop-a.seconds b others inv.seconds_in c.in-Pair-view.ensures.below.0 c.in-Pair-view.ensures.below.1 c.in-Pair-view.ensures.shows.2 in
    let x = not_object (equal_object (object_at os a) (object_at os b)) in
    let ys = inequalities_in (object_at os more) (object_at os others) in
    let made = c.in_ok-made.ensures.made ∙ ap₂ (λ y z. not_object (equal_object y z)) (object_at-Grows os cur inv.grows a one.0) (object_at-Grows os cur inv.grows b two.0) in
    let next = ap (λ l. map (object_at cur) items ++ l) (sym (next_inequality (object_at os c.loop-a.firsts) (object_at os c.loop-a.seconds) (object_at os a) (object_at os more) (object_at os b) (object_at os others) one.2 two.2)) ∙ inv.same in
    let put = put_next cur new items c.in_ok-made.made x ys _ c.in_ok-made.ensures.grows inv.within next c.in_ok-made.ensures.within made in
    record {
      grows = Grows-trans _ _ _ inv.grows c.in_ok-made.ensures.grows;
      firsts_in = one.1;
      seconds_in = two.1;
      within = subst (All (IsIn new)) (sym c.in_ok-push.ensures.items) put.0;
      same = ap (λ l. map (object_at new) l ++ ys) c.in_ok-push.ensures.items ∙ put.1;
    }
