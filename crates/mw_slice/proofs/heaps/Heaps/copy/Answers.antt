-- A heap is opened, and then the event copied to it.
use Rattle.mw_slice.proofs.OneHeap.{stay_grow}
use Rattle.mw_slice.proofs.heaps.Heaps.copy.Goals as goal

pub returns-clause-grow : goal.returns-clause-grow
returns-clause-grow c = stay_grow c.args.self.now c.open.new.self c.copy_to.new.self c.in_ok-place.ensures.stay c.copy_to.ensures.grow
