-- The objects are those before the looks were taken.
use Rattle.std.proofs.Common.{◌≡◌, true, IfOk, sym, subst}
use Rattle.mw_model.specs.Terms.Term.{ArityTable}
use Rattle.mw_model.specs.Laws.Rules.{is_formula_object, object_is_instance}
use Rattle.mw_heap.specs.Objects.{object_at}
use Rattle.mw_term.specs.Marking.{AreMarks}
use Rattle.mw_equal.proofs.instance.instantiation.Goals as goal

pub is_formula_under-requires-clause-marks : goal.is_formula_under-requires-clause-marks
is_formula_under-requires-clause-marks c = (c.requires.marks.0, subst (λ os. AreMarks c.requires.marks.0 os c.args.marks.now) (sym c.in_ok-take_searches_of_members.ensures) c.requires.marks.1)

pub is_formula_under-requires-clause-formula : goal.is_formula_under-requires-clause-formula
is_formula_under-requires-clause-formula c = (c.requires.formula.0, subst (λ os. is_formula_object c.requires.formula.0 (object_at os c.args.premise) ≡ true) (sym c.in_ok-take_searches_of_members.ensures) c.requires.formula.1)

pub returns-clause-answer : goal.returns-clause-answer
returns-clause-answer c =
    subst (λ os. IfOk c.is_formula_under.result (λ b. (A : ArityTable) → AreMarks A os c.args.marks.now → b ≡ object_is_instance A (object_at os c.args.conclusion) (object_at os c.args.premise) (object_at os c.args.substitution))) c.in_ok-take_searches_of_members.ensures c.is_formula_under.ensures.answer
