-- Lexemes that a stack takes.
use Rattle.std.specs.Prelude.{◌≡◌, ℕ, false, List}
use Rattle.mw_model.specs.Terms.Object.{Object}
use Rattle.mw_model.specs.Texts.Lexemes as lex
use Rattle.mw_heap.specs.Objects.{object_at, IsIn}
use Rattle.mw_read.specs.Piles.{Pile, is_ready}
use Rattle.mw_read.specs.declared.lexeme.Lexeme.{Lexeme}
use Rattle.mw_read.specs.declared.lexeme.Lexeme.TheVariants.{Open, Close, Dot, Quote, Atom, Mark, Ref}

-- the lexeme, as the grammar has it at this offset
abbrev pub lexeme_at : List Object → ℕ → Lexeme → lex.Lexeme
lexeme_at os o Open = lex.Open o
lexeme_at os o Close = lex.Close o
lexeme_at os o Dot = lex.Dot o
lexeme_at os o Quote = lex.Quote o
lexeme_at os o (Atom x) = lex.Atom o (object_at os x)
lexeme_at os o (Mark n) = lex.Mark o n
lexeme_at os o (Ref n) = lex.Ref o n

-- An atom and a label are taken only where a datum may begin.
abbrev pub MayCome : List Object → Pile → Lexeme → Type 0
MayCome os p (Atom x) = IsIn os x × (is_ready p ≡ false)
MayCome os p (Mark n) = is_ready p ≡ false
MayCome os p (Ref n) = is_ready p ≡ false
MayCome os p l = Unit {0}

-- It is no atom, so that no natural in it can be cut.
abbrev pub IsBare : Lexeme → Type 0
IsBare (Atom x) = ⊥
IsBare l = Unit {0}
