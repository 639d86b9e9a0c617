-- It is one, or is shown.
use Rattle.std.proofs.Common.{refl, sym, ◌∙◌}
use Rattle.mw_explain.proofs.formula_part.in_negation.Goals as goal

pub returns-then-is_formula : goal.returns-then-is_formula
returns-then-is_formula c = λ A os k. sym (c.is_formula.ensures A os k) ∙ c.if-is_formula.true

pub returns-else-is_formula : goal.returns-else-is_formula
returns-else-is_formula c = λ A os k. (refl, sym (c.is_formula.ensures A os k) ∙ c.if-is_formula.false)
