-- The lexemes of a text are read as its object.
use Rattle.std.proofs.Common.{[], ◌∷◌}
use Rattle.mw_model.proofs.TextReadBack.{trees-text_of, trees-text_lines}
use Rattle.mw_model.proofs.text.text_read_back.Goals as goal

pub returns-clause-alone : goal.returns-clause-alone
returns-clause-alone c = trees-text_of

pub returns-clause-line : goal.returns-clause-line
returns-clause-line c = λ x. trees-text_lines (x ∷ [])

pub returns-clause-lines : goal.returns-clause-lines
returns-clause-lines c = trees-text_lines
