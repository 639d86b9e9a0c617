use Rattle.std.proofs.Common.{vec_len}
use Rattle.mw_read.specs.Piles.{Gives}
use Rattle.mw_read.proofs.stack.give.Given as goal

abbrev pub invariant-loop-layer : goal.invariant-loop-layer
invariant-loop-layer l = Gives l.fn.heap.objects l.fn.layers.items l.fn.labels.entries l.fn.x l.heap.objects l.layers.items l.labels.entries l.x

abbrev pub decreases-loop-layer : goal.decreases-loop-layer
decreases-loop-layer l = vec_len l.layers
