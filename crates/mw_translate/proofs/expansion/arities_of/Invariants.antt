-- The pairs so far.
use Rattle.std.proofs.Common.{◌≡◌, [], take}
use Rattle.mw_translate.specs.Expands.{with_pairs}
use Rattle.mw_translate.proofs.expansion.arities_of.Given as goal

abbrev pub invariant-loop-pair : goal.invariant-loop-pair
invariant-loop-pair l = l.table ≡ with_pairs l.heap.objects (take l.pair-index l.new) []
