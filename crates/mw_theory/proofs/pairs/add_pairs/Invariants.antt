-- The pairs so far are in front.
use Rattle.std.proofs.Common.{◌≡◌, take}
use Rattle.mw_translate.specs.Expands.{with_pairs}
use Rattle.mw_theory.proofs.pairs.add_pairs.Given as goal

abbrev pub invariant-loop-pair : goal.invariant-loop-pair
invariant-loop-pair l = l.arity ≡ with_pairs l.heap.objects (take l.pair-index l.pairs) l.initial.arity
