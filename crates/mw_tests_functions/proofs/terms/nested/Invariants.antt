-- What was made so far is a term.
use Rattle.mw_heap.specs.Objects.{Grows}
use Rattle.mw_tests_functions.specs.Tested.{IsSomeTerm}
use Rattle.mw_tests_functions.proofs.terms.nested.Given as goal

abbrev pub invariant-loop : goal.invariant-loop
invariant-loop l = Grows l.fn.heap.objects l.heap.objects × IsSomeTerm l.heap.objects l.term
