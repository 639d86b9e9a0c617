-- What the nodes so far come to, with the nodes that are left, gives what all nodes come to.
use Rattle.mw_taut.proofs.ReducingAll.{IsReducing}
use Rattle.mw_taut.proofs.reduce.reduce_all.Given as goal

abbrev pub invariant-loop-node : goal.invariant-loop-node
invariant-loop-node l = IsReducing l.fn.heap.objects l.at.context l.at.equation l.at.value l.at.formulas.now l.nodes l.heap.objects l.done.items l.node-index
