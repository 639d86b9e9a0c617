-- The symbols so far were put.
use Rattle.std.proofs.Common.{◌≡◌, take}
use Rattle.mw_term.specs.Parts.{names_at, AreSymbols}
use Rattle.mw_explain.specs.Drafts.{formals_at}
use Rattle.mw_explain.specs.OtherVariables.{put_others}
use Rattle.mw_explain.proofs.other_variables.put_each.Given as goal

abbrev pub invariant-loop-x : goal.invariant-loop-x
invariant-loop-x l = record {
  symbols : AreSymbols l.heap.objects l.others.keys;
  put : names_at l.heap.objects l.others.keys ≡ put_others (formals_at l.heap.objects l.formals) (names_at l.heap.objects l.fn.others.keys) (names_at l.heap.objects (take l.x-index l.symbols));
}
