-- The cells so far are counted.
use Rattle.mw_heap.proofs.Counts.{AreCounted}
use Rattle.mw_heap.proofs.store.sets.counts_of.Given as goal

abbrev pub invariant-loop-cell : goal.invariant-loop-cell
invariant-loop-cell l = AreCounted l.cells l.cell-index l.naturals l.names
