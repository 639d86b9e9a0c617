-- Texts of several lines: words of the laws on text.
use Rattle.std.specs.Prelude.{ℕ, List, [], ◌∷◌, ◌++◌}
use Rattle.mw_model.specs.Terms.Object.{Object}
use Rattle.mw_model.specs.Values.Primitive.{One}
use Rattle.mw_model.specs.Texts.Lexemes.{Goes}
use Rattle.mw_model.specs.Texts.Grammar.{reading}
use Rattle.mw_model.specs.Texts.Printing.{text_of}
use Rattle.mw_model.specs.Events.Theory.{initial}
use Rattle.mw_model.specs.Reports.Report.{lines}

-- one object on each line
abbrev pub text_lines : List Object → List ℕ
text_lines [] = []
text_lines (x ∷ xs) = text_of x ++ 10 ∷ text_lines xs

-- the lines of the report where more bytes may follow
abbrev pub lines_so_far : List ℕ → ℕ → List ℕ
lines_so_far bytes N = lines 1 (initial One) (reading Goes bytes).events N
