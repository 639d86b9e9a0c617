-- One of the heaps grows.
use Rattle.mw_heap.specs.Objects.{object_at}
use Rattle.mw_slice.proofs.OneHeap.{grows_at, stays_at, new_at, object_at-it, on_err}
use Rattle.mw_slice.proofs.heaps.Heaps.copy_to.Goals as goal

pub returns-in_err-event-clause-grow : goal.returns-in_err-event-clause-grow
returns-in_err-event-clause-grow c =
    grows_at c.self.inside.heaps.items c.args.place c.index_mut-heap.result.now c.copy_or_cut.new.to c.args.self.now c.self.view_is c.requires.place c.index_mut-heap.ensures.value c.copy_or_cut.ensures.grows

pub returns-in_err-event-clause-err : goal.returns-in_err-event-clause-err
returns-in_err-event-clause-err c =
    on_err c.from_residual.result
    (stays_at c.self.inside.heaps.items c.args.place c.index_mut-heap.result.now c.copy_or_cut.new.to c.args.self.now c.self.view_is c.requires.place c.index_mut-heap.ensures.value c.in_err-event.ensures.err)

pub returns-clause-grow : goal.returns-clause-grow
returns-clause-grow c =
    grows_at c.self.inside.heaps.items c.args.place c.index_mut-heap.result.now c.copy_or_cut.new.to c.args.self.now c.self.view_is c.requires.place c.index_mut-heap.ensures.value c.copy_or_cut.ensures.grows

pub returns-clause-placed : goal.returns-clause-placed
returns-clause-placed c =
    new_at c.self.inside.heaps.items c.args.place c.index_mut-heap.result.now c.copy_or_cut.new.to c.args.self.now c.self.view_is c.requires.place c.index_mut-heap.ensures.value c.mark-start.result c.in_ok-event.event c.mark-start.ensures
    c.copy_or_cut.ensures.grows c.in_ok-event.ensures.made.0

pub returns-clause-made : goal.returns-clause-made
returns-clause-made c =
    object_at-it c.self.inside.heaps.items c.args.place c.index_mut-heap.result.now c.copy_or_cut.new.to c.args.self.now c.self.view_is c.requires.place c.index_mut-heap.ensures.value c.mark-start.result c.in_ok-event.event
    (object_at c.args.from.now.objects c.args.x) c.in_ok-event.ensures.made.1
