-- Texts made of pieces, and what stands after the last piece.
use Rattle.std.specs.Prelude.{◌≡◌, ℕ, suc, ◌+◌, Bool, cond, List, [], ◌∷◌, ◌++◌, Option, codes}
use Rattle.mw_model.specs.Texts.Lexemes.{Fault}
use Rattle.mw_model.specs.Reports.Report.{last_line_of}

-- the text has one piece for each member of the list, in order, and each piece is as it has to be
abbrev pub InOrder : {X : Type 0} → (X → List ℕ → Type 0) → List X → List ℕ → Type 0
InOrder Piece [] text = text ≡ []
InOrder Piece (x ∷ xs) text = (piece rest : List ℕ) × (text ≡ piece ++ rest) × Piece x piece × InOrder Piece xs rest

-- the members with their numbers, from k on
abbrev pub numbered : {X : Type 0} → ℕ → List X → List (ℕ × X)
numbered k [] = []
numbered k (x ∷ xs) = (k, x) ∷ numbered (suc k) xs

abbrev pub how_many : {X : Type 0} → (X → Bool) → List X → ℕ
how_many test [] = 0
how_many test (x ∷ xs) = cond (test x) 1 0 + how_many test xs

-- a line that a reader of books takes for a comment
abbrev pub comment : List ℕ → List ℕ
comment text = codes "; " ++ (text ++ 10 ∷ [])

-- the last line: the fault of the book, or else this summary
abbrev pub ending : Option Fault → List ℕ → List ℕ
ending fault summary = last_line_of fault (summary ++ 10 ∷ [])

abbrev pub comment_ending : Option Fault → List ℕ → List ℕ
comment_ending fault summary = codes "; " ++ ending fault summary
