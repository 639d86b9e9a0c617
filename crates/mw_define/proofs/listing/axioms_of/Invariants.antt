-- The axioms so far.
use Rattle.mw_define.proofs.BlockAxioms.{AxiomsSoFar}
use Rattle.mw_define.proofs.listing.axioms_of.Given as goal

abbrev pub invariant-loop-function : goal.invariant-loop-function
invariant-loop-function l = AxiomsSoFar l.fn.heap.objects l.heap.objects l.fn.block l.function-index l.axioms.items
