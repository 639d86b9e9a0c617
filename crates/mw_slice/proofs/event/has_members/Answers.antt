-- One member after another.
use Rattle.std.proofs.Common.{sym, ◌∙◌}
use Rattle.mw_heap.specs.Objects.{object_at}
use Rattle.mw_heap.proofs.NoPair.{shown_no_pair}
use Rattle.mw_slice.proofs.EventMembers.{has_members-rest, has_members-atom, has_members-none}
use Rattle.mw_slice.proofs.event.has_members.Goals as goal

pub loop-preserved : goal.loop-preserved
loop-preserved c =
    let os = c.args.heap.now.objects in
    let pair = c.in-Pair.ensures in
    (pair.shows.1, has_members-rest c.args.count c.loop.counter c.loop-test.true (object_at os c.loop.list) (object_at os c.in-Pair.field-0) (object_at os c.in-Pair.rest) pair.shows.2 ∙ c.loop.invariant.1)

pub returns-in_default : goal.returns-in_default
returns-in_default c =
    let os = c.args.heap.now.objects in
    let x = object_at os c.loop.list in
    sym (has_members-atom c.args.count c.loop.counter c.loop-test.true x (shown_no_pair os c.view.result x c.view.ensures.shows c.in_default.not-Pair)) ∙ c.loop.invariant.1

pub returns : goal.returns
returns c = c.is_nil.ensures ∙ (sym (has_members-none c.args.count c.loop.counter (object_at c.args.heap.now.objects c.loop.list) c.loop-test.false) ∙ c.loop.invariant.1)
