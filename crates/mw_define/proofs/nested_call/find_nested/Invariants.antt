-- None of the functions so far has a nested call.
use Rattle.std.proofs.Common.{◌≡◌, suc, drop}
use Rattle.mw_heap.specs.Objects.{Grows}
use Rattle.mw_define.specs.Blocks.{functions_at}
use Rattle.mw_define.specs.Knowing.{AreKnown}
use Rattle.mw_define.specs.NestedCall.{first_nested}
use Rattle.mw_define.proofs.nested_call.find_nested.Given as goal

abbrev pub invariant-loop-index : goal.invariant-loop-index
invariant-loop-index l = record {
  grows : Grows l.fn.heap.objects l.heap.objects;
  known : AreKnown l.heap.objects l.fn.known.names.keys l.known;
  left : first_nested (functions_at l.fn.heap.objects l.block) (suc l.index) (functions_at l.fn.heap.objects (drop l.index l.block)) ≡ first_nested (functions_at l.fn.heap.objects l.block) 1 (functions_at l.fn.heap.objects l.block);
}
