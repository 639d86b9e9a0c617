-- How many formulas there were and how many were proved, as it is written.
use Rattle.std.specs.Prelude.{ℕ, List, [], ◌∷◌, ◌++◌, codes}
use Rattle.mw_model.specs.Texts.Printing.{numeral}
use Rattle.mw_model.specs.Reports.Report.{spaced}

abbrev pub formulas_line : (formulas proved : ℕ) → List ℕ
formulas_line formulas proved = spaced (codes "formulas") (spaced (numeral formulas) (spaced (codes "proved") (numeral proved))) ++ 10 ∷ []
