-- The pairs so far.
use Rattle.std.proofs.Common.{◌≡◌, take, map}
use Rattle.mw_theory.specs.Adding.{pair_of}
use Rattle.mw_theory.proofs.pairs.pairs_of.Given as goal

abbrev pub invariant-loop-definition : goal.invariant-loop-definition
invariant-loop-definition l = l.pairs.items ≡ map (pair_of l.heap.objects) (take l.definition-index l.block)
