-- The names are woken, and so the watch is awake.
use Rattle.mw_theory.proofs.WokenNames.{block-awake}
use Rattle.mw_theory.proofs.waking.try_to_settle.Goals as goal

pub settle-requires : goal.settle-requires
settle-requires c =
    let (A, B, named) = c.requires in
    record { marked = (A, (named.marked, block-awake A B c.args.arity.now c.args.heap.now.objects c.args.block.now c.args.marks.now c.args.watch.now c.wake_names.new.watch c.order.ensures.distinct named c.in_ok-wake_names.ensures)) }
