-- One premise after another is detached.
use Rattle.std.proofs.Common.{subst}
use Rattle.mw_heap.specs.Objects.{object_at}
use Rattle.mw_heap.proofs.Objects.{Grows-trans, object_at-Grows}
use Rattle.mw_lower.specs.Unless.{DetachesOne}
use Rattle.mw_lower.proofs.Premises.{LeavesRest-more, LeavesRest-all, nothing_left}
use Rattle.mw_lower.proofs.replace.detach_all.Goals as goal

pub returns-clause-made : goal.returns-clause-made
returns-clause-made c =
    let os = c.args.heap.now.objects in
    LeavesRest-all os c.args.whole c.args.step c.args.proofs.now c.loop-p.p-index c.loop-p.heap.objects c.loop-p.whole c.loop-p.step (nothing_left os c.args.proofs.now c.loop-p.p-index c.loop-p-test.false) c.loop-p.invariant.left

pub loop-p-preserved : goal.loop-p-preserved
loop-p-preserved c =
    let os = c.args.heap.now.objects in
    let before = c.loop-p.invariant in
    let one = c.in_ok-rest.ensures in
    let within = c.requires.proofs c.loop-p.p-index c.p-item.result c.loop-p-test.true in
    record {
      whole_in = one.within.0;
      step_in = one.within.1;
      grows = Grows-trans _ _ _ before.grows one.grows;
      left = LeavesRest-more os c.args.whole c.args.step c.args.proofs.now c.loop-p.p-index c.p-item.result c.loop-p.heap.objects c.loop-p.whole c.loop-p.step c.detach_one.new.heap.objects c.in_ok-rest.rest c.in_ok-rest.next c.loop-p-test.true (object_at-Grows _ _ before.grows _ within) before.left (subst (λ x. DetachesOne (object_at c.loop-p.heap.objects c.loop-p.whole) (object_at c.loop-p.heap.objects c.loop-p.step) (object_at c.loop-p.heap.objects x) (object_at c.detach_one.new.heap.objects c.in_ok-rest.rest) (object_at c.detach_one.new.heap.objects c.in_ok-rest.next)) c.p-item.is one.made);
    }
