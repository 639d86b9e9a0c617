-- The list ends just after so many members, or it has more or fewer.
use Rattle.std.proofs.Common.{ap, ◌∙◌, arith, not}
use Rattle.mw_heap.specs.Objects.{object_at}
use Rattle.mw_heap.proofs.NoPair.{shown_no_pair}
use Rattle.mw_term.specs.Parts.{length_of}
use Rattle.mw_term.proofs.ListLengths.{no_members, differ, ends_at}
use Rattle.mw_term.proofs.list.has_length.Goals as goal

pub loop-preserved : goal.loop-preserved
loop-preserved c = (c.in-Pair.ensures.shows.1, omega (arith, c.loop.invariant.1, ap length_of c.in-Pair.ensures.shows.2))

pub returns-in_default : goal.returns-in_default
returns-in_default c =
    let os = c.args.heap.now.objects in
    let none = no_members (object_at os c.loop.rest) (shown_no_pair os _ _ c.view.ensures.shows c.in_default.not-Pair) in
    differ _ _ (λ e. omega (arith, e, none, c.loop.invariant.1, c.loop-test.true))

pub returns : goal.returns
returns c =
    let os = c.args.heap.now.objects in
    ap not c.is_pair.ensures ∙ ends_at _ _ (object_at os c.loop.rest) (omega (arith, c.loop.invariant.1, c.loop-test.false, c.loop.auto.counter-end))
