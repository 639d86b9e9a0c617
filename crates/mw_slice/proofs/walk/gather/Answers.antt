-- Each step meets the part that waited last, and once nothing waits all is noted.
use Rattle.std.proofs.Common.{subst, arith}
use Rattle.mw_slice.proofs.Walking.{IsWalking, walk_falls, walk_goes, walk_closes, walk_notes, nothing_left}
use Rattle.mw_slice.proofs.walk.gather.Goals as goal

pub loop-part-smaller : goal.loop-part-smaller
loop-part-smaller c =
    let n = c.meet.new in
    walk_falls c.args.indexed.now.heap.now.objects c.args.indexed.now.firsts.now.entries c.in-Some.part c.loop-part.basis n.basis c.pop.new.self.items n.waiting.items c.loop-part.waiting.items c.in-Some.ensures.items c.in_ok-meet.ensures

pub loop-part-preserved : goal.loop-part-preserved
loop-part-preserved c =
    let os = c.args.indexed.now.heap.now.objects in
    let firsts = c.args.indexed.now.firsts.now.entries in
    let n = c.meet.new in
    walk_goes os firsts c.args.root c.args.basis.now c.in-Some.part c.loop-part.basis n.basis c.pop.new.self.items n.waiting.items
    (subst (IsWalking os firsts c.args.root c.args.basis.now c.loop-part.basis) c.in-Some.ensures.items c.loop-part.invariant)
    c.in_ok-meet.ensures

pub returns-clause-basis : goal.returns-clause-basis
returns-clause-basis c =
    walk_closes c.args.indexed.now.heap.now.objects c.args.indexed.now.firsts.now.entries c.args.root c.args.basis.now c.loop-part.basis c.loop-part.waiting.items
    (nothing_left c.loop-part.waiting.items c.pop.new.self.items c.in_default.ensures.items (omega (arith, c.in_default.ensures.cases.1, c.pop.new.self.ok.0))) c.loop-part.invariant

pub returns-clause-supports : goal.returns-clause-supports
returns-clause-supports c =
    walk_notes c.args.indexed.now.heap.now.objects c.args.indexed.now.firsts.now.entries c.args.root c.args.basis.now c.loop-part.basis c.loop-part.waiting.items
    (nothing_left c.loop-part.waiting.items c.pop.new.self.items c.in_default.ensures.items (omega (arith, c.in_default.ensures.cases.1, c.pop.new.self.ok.0))) c.loop-part.invariant
