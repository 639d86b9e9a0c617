-- One of the heaps is cut.
use Rattle.mw_slice.proofs.OneHeap.{cut_at}
use Rattle.mw_slice.proofs.heaps.Heaps.cut_back.Goals as goal

pub returns : goal.returns
returns c =
    cut_at c.self.inside.heaps.items c.args.place c.index_mut-heap.result.now c.cut_back.new.self c.args.self.now c.self.view_is c.requires.place c.index_mut-heap.ensures.value c.args.to c.cut_back.ensures.kept
