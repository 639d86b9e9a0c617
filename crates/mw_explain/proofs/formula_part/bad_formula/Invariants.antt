-- What is looked at is no formula, and shows what is looked for.
use Rattle.std.proofs.Common.{◌≡◌, ◌<◌, false, length}
use Rattle.mw_model.specs.Laws.Rules.{is_formula_object}
use Rattle.mw_heap.specs.Objects.{object_at}
use Rattle.mw_commands.specs.Commands.ExplanationTerms.{bad_formula}
use Rattle.mw_explain.proofs.formula_part.bad_formula.Given as goal

abbrev pub invariant-loop-part : goal.invariant-loop-part
invariant-loop-part l = record {
  within : l.at < length l.marks;
  none : is_formula_object l.arity (object_at l.heap.objects l.at) ≡ false;
  same : bad_formula l.arity (object_at l.heap.objects l.at) ≡ bad_formula l.arity (object_at l.heap.objects l.fn.x);
}

abbrev pub decreases-loop-part : goal.decreases-loop-part
decreases-loop-part l = l.at
