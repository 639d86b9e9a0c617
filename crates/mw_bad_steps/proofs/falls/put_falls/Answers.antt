-- The premise of the next substitution is put.
use Rattle.std.proofs.Common.{◌++◌, map, All, sym, ap, ◌∙◌, subst}
use Rattle.mw_model.specs.Terms.Object.{NIL}
use Rattle.mw_model.specs.Laws.RulesInduction.{fall_object, falls_object}
use Rattle.mw_heap.specs.Objects.{object_at, IsIn}
use Rattle.mw_heap.proofs.Objects.{Grows-trans}
use Rattle.mw_bad_steps.specs.Members.{members_in}
use Rattle.mw_bad_steps.proofs.PremisesPut.{put_next, first_pairs, next_part, same_fall}
use Rattle.mw_bad_steps.proofs.falls.put_falls.Goals as goal

pub loop-s-preserved : goal.loop-s-preserved
loop-s-preserved c =
    let os = c.args.heap.now.objects in
    let cur = c.loop-s.heap.objects in
    let inv = c.loop-s.invariant in
    let s = c.in-Pair.s in
    let more = c.in-Pair.more in
    let m = object_at os c.args.measure in
    let q = object_at os c.args.condition in
    let items = c.loop-s.premises.items in
    let part = next_part os cur inv.grows c.loop-s.rest s more inv.rest c.in-Pair.ensures.below.0 c.in-Pair.ensures.below.1 c.in-Pair.ensures.shows.2 in
    let pairs = first_pairs (object_at os c.loop-s.rest) (object_at os s) (object_at os more) part.2 inv.pairs in
    let next = ap (λ y. map (object_at cur) items ++ members_in (falls_object m q y NIL)) (sym part.2) ∙ inv.same in
    let made = c.in_ok-made.ensures.made ∙ same_fall os cur inv.grows c.args.measure c.args.condition s c.requires.within c.requires.condition part.0 in
    let put = put_next cur c.fall.new.heap.objects items c.in_ok-made.made (fall_object m q (object_at os s)) (members_in (falls_object m q (object_at os more) NIL)) _ c.in_ok-made.ensures.grows inv.within next c.in_ok-made.ensures.within made in
    record {
      grows = Grows-trans _ _ _ inv.grows c.in_ok-made.ensures.grows;
      rest = part.1;
      pairs = pairs.1;
      within = subst (All (IsIn c.fall.new.heap.objects)) (sym c.in_ok-push.ensures.items) put.0;
      same = ap (λ l. map (object_at c.fall.new.heap.objects) l ++ members_in (falls_object m q (object_at os more) NIL)) c.in_ok-push.ensures.items ∙ put.1;
    }
