-- The width is that of the table.
use Rattle.std.proofs.Common.{◌+◌, ◌*◌, ◌≤◌, ◌^◌, subst, arith}
use Rattle.mw_kernel.proofs.running.run_entry.Goals as goal

pub run_with_room-requires-clause-places : goal.run_with_room-requires-clause-places
run_with_room-requires-clause-places c =
    let (D, t, stands, entry) = c.requires.entry in
    subst (λ w. (c.args.units + 1) * w ≤ 2 ^ 48) (c.width.ensures c.args.heap.now.objects D stands) (omega (arith, c.has_small_room.ensures.places c.if-has_small_room.true))
