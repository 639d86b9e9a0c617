-- One number more.
use Rattle.std.proofs.Common.{map}
use Rattle.mw_commands.specs.Commands.Flattening.{number_among}
use Rattle.mw_heap.specs.Objects.{object_at}
use Rattle.mw_flat.proofs.Places.{one_number}
use Rattle.mw_flat.proofs.number.numbers_of.Goals as goal

pub loop-p-preserved : goal.loop-p-preserved
loop-p-preserved c =
    let os = c.args.heap.now.objects in
    one_number (λ r. number_among (map (object_at os) c.args.complete.now.keys) (object_at os r)) c.args.proofs.now c.loop-p.p-index c.loop-p-test.true
    c.loop-p.numbers.items c.push.new.self.items c.number_of.result c.p-item.result c.loop-p.invariant c.in_ok-push.ensures.items c.number_of.ensures c.p-item.is
