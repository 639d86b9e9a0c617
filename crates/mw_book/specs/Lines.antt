-- The parts of a line, as they are written.
use Rattle.std.specs.Prelude.{ℕ, ◌-◌, List, [], ◌∷◌, ◌++◌, codes}
use Rattle.mw_model.specs.Terms.Object.{Object}
use Rattle.mw_model.specs.Texts.Lexemes.{SyntaxKind}
use Rattle.mw_model.specs.Texts.Printing.{numeral}
use Rattle.mw_model.specs.Reports.Report.{spaced, word_text, label_text, kind_word}

-- the line of event number k up to its fate
abbrev pub line_begun : ℕ → Object → List ℕ
line_begun k e = numeral k ++ 32 ∷ (word_text e ++ 32 ∷ (label_text e ++ 32 ∷ []))

abbrev pub summary_of : (events refused level : ℕ) → List ℕ
summary_of events refused level =
    spaced (codes "events") (spaced (numeral events) (spaced (codes "accepted") (spaced (numeral (events - refused)) (spaced (codes "refused") (spaced (numeral refused) (spaced (codes "level") (numeral level))))))) ++ 10 ∷ []

abbrev pub fault_line : SyntaxKind → ℕ → List ℕ
fault_line kind offset = spaced (codes "syntax") (spaced (kind_word kind) (spaced (codes "at") (numeral offset))) ++ 10 ∷ []

abbrev pub flat_line : (events written : ℕ) → List ℕ
flat_line events written = spaced (codes "events") (spaced (numeral events) (spaced (codes "flat") (numeral written))) ++ 10 ∷ []

abbrev pub answers_line : (events denied left : ℕ) → List ℕ
answers_line events denied left =
    spaced (codes "events") (spaced (numeral events) (spaced (codes "yes") (spaced (numeral (events - denied)) (spaced (codes "no") (spaced (numeral denied) (spaced (codes "left") (numeral left))))))) ++ 10 ∷ []
