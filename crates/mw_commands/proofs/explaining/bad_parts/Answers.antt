-- What does not pass is shown.
use Rattle.std.proofs.Common.{is_some}
use Rattle.mw_model.specs.Events.Expansion.{abbreviation_of, expand}
use Rattle.mw_commands.proofs.ExplainedParts.{part_fails, part_decides, formula_part_fails, formula_decides}
use Rattle.mw_commands.proofs.explaining.bad_parts.Goals as goal

pub returns-clause-raw : goal.returns-clause-raw
returns-clause-raw c A x y h = part_fails abbreviation_of (λ z. is_some (expand A z)) A x y h

pub returns-clause-raw_none : goal.returns-clause-raw_none
returns-clause-raw_none c A x = part_decides abbreviation_of (λ z. is_some (expand A z)) A x

pub returns-clause-formula : goal.returns-clause-formula
returns-clause-formula c = formula_part_fails

pub returns-clause-formula_none : goal.returns-clause-formula_none
returns-clause-formula_none c = formula_decides
