-- The members so far are terms.
use Rattle.std.proofs.Common.{◌≡◌, ◌<◌, ◌≤◌, length}
use Rattle.mw_model.specs.Terms.Term.{ArityTable}
use Rattle.mw_heap.specs.Objects.{object_at}
use Rattle.mw_term.specs.Marking.{AreMarks}
use Rattle.mw_explain.specs.TermParts.{bad_terms}
use Rattle.mw_explain.proofs.term_part.first_no_term.Given as goal

abbrev pub invariant-loop-first : goal.invariant-loop-first
invariant-loop-first l = record {
  within : l.rest < length l.marks;
  older : l.rest ≤ l.fn.list;
  same : (A : ArityTable) → AreMarks A l.heap.objects l.marks → bad_terms A (object_at l.heap.objects l.rest) ≡ bad_terms A (object_at l.heap.objects l.fn.list);
}

abbrev pub decreases-loop-first : goal.decreases-loop-first
decreases-loop-first l = l.rest
