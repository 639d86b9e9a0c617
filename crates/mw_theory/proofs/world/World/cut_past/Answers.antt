-- The object stands before the cut, which is within the heap.
use Rattle.std.proofs.Common.{◌≤◌, length, arith}
use Rattle.mw_theory.proofs.Worlds.{in-cut, same-cut, mark-within}
use Rattle.mw_theory.proofs.world.World.cut_past.Goals as goal

pub returns-clause-within : goal.returns-clause-within
returns-clause-within c =
    let os = c.args.self.now.heap.objects in
    let whole : c.later.result ≤ length os = mark-within c.args.self.now c.requires.world c.mark_after-end.result c.later.result c.later.ensures (omega (arith, c.mark_after-end.ensures, c.requires.within)) in
    in-cut _ os c.later.result c.cut_to.ensures.objects whole c.args.x (omega (arith, c.later.ensures, c.mark_after-end.ensures))

pub returns-clause-same : goal.returns-clause-same
returns-clause-same c =
    let os = c.args.self.now.heap.objects in
    let whole : c.later.result ≤ length os = mark-within c.args.self.now c.requires.world c.mark_after-end.result c.later.result c.later.ensures (omega (arith, c.mark_after-end.ensures, c.requires.within)) in
    same-cut _ os c.later.result c.cut_to.ensures.objects whole c.args.x (omega (arith, c.later.ensures, c.mark_after-end.ensures))
