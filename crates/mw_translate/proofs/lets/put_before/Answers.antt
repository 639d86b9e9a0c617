-- The last of those that are left goes in front.
use Rattle.std.proofs.Common.{sym, ap, ◌∙◌, subst}
use Rattle.mw_model.specs.Terms.Object.{Pair}
use Rattle.mw_heap.specs.Objects.{object_at}
use Rattle.mw_heap.proofs.Objects.{IsIn-Grows, object_at-Grows, Grows-trans}
use Rattle.mw_translate.specs.Lets.{prepend, AreAllIn}
use Rattle.mw_translate.proofs.Appended.{all_in-front, prepend-push}
use Rattle.mw_translate.proofs.lets.put_before.Goals as goal

pub cons-requires-clause-first_in : goal.cons-requires-clause-first_in
cons-requires-clause-first_in c =
    let h = c.loop-member.invariant in
    let p = all_in-front c.args.heap.now.objects c.pop.new.self.items c.in-Some.member (subst (AreAllIn c.args.heap.now.objects) c.in-Some.ensures.items h.left_in) in
    IsIn-Grows c.args.heap.now.objects c.loop-member.heap.objects h.grows c.in-Some.member p.1

pub loop-member-preserved : goal.loop-member-preserved
loop-member-preserved c =
    let os = c.args.heap.now.objects in
    let h = c.loop-member.invariant in
    let rest = c.pop.new.self.items in
    let p = all_in-front os rest c.in-Some.member (subst (AreAllIn os) c.in-Some.ensures.items h.left_in) in
    record {
      grows = Grows-trans os c.loop-member.heap.objects c.cons.new.self.objects h.grows c.in_ok-list.ensures.grows;
      left_in = p.0;
      within = c.in_ok-list.ensures.made.0;
      made =
          ap (prepend os rest) (c.in_ok-list.ensures.made.1 ∙ ap (λ x. Pair x (object_at c.loop-member.heap.objects c.loop-member.list)) (object_at-Grows os c.loop-member.heap.objects h.grows c.in-Some.member p.1))
          ∙ (sym (prepend-push os rest c.in-Some.member (object_at c.loop-member.heap.objects c.loop-member.list))
          ∙ (ap (λ rs. prepend os rs (object_at c.loop-member.heap.objects c.loop-member.list)) (sym c.in-Some.ensures.items) ∙ h.made));
    }
