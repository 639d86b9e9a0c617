use Rattle.std.proofs.Common.{vec_len}
use Rattle.mw_read.proofs.Folding.{Folds}
use Rattle.mw_read.proofs.stack.fold.Given as goal

abbrev pub invariant-loop-layer : goal.invariant-loop-layer
invariant-loop-layer l = Folds l.fn.heap.objects l.fn.layers.items l.fn.last l.heap.objects l.layers.items l.list

abbrev pub decreases-loop-layer : goal.decreases-loop-layer
decreases-loop-layer l = vec_len l.layers
