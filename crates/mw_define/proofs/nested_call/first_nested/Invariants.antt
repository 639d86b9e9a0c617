-- None of the calls so far has one among its actuals.
use Rattle.mw_term.specs.Parts.{names_at}
use Rattle.mw_define.specs.Knowing.{AreKnown}
use Rattle.mw_define.proofs.FirstNested.{IsLooking}
use Rattle.mw_define.proofs.nested_call.first_nested.Given as goal

abbrev pub invariant-loop-call : goal.invariant-loop-call
invariant-loop-call l = record {
  looking : IsLooking (names_at l.fn.heap.objects l.fn.known.names.keys) l.fn.heap.objects l.fn.calls l.call-index;
  known : AreKnown l.fn.heap.objects l.fn.known.names.keys l.known;
}
