-- Lexemes one by one.
use Rattle.std.specs.Prelude.{ℕ, ◌+◌, Bool, eqb, List, [], ◌∷◌, Some, if◌then◌else◌}
use Rattle.mw_model.specs.Texts.Lexemes.{Lexeme, Atom, Dot, Mark, Ref, Wrong, fault, TOKEN, LABEL, decimal_value, TokenForm, Whole, Point, Bad}

-- the lexeme of a token at o, and of what stands after it, where that may be glued to it
abbrev pub token_lexeme : ℕ → Bool → TokenForm → Lexeme
token_lexeme o glued (Whole x) = Atom o x
token_lexeme o glued Point = if glued then Wrong o (Some (fault TOKEN (o + 1))) else Dot o
token_lexeme o glued Bad = Wrong o (Some (fault TOKEN o))

-- the lexeme of a # at o, these digits, and this byte
abbrev pub label_lexeme : ℕ → List ℕ → ℕ → Lexeme
label_lexeme o [] b = Wrong o (Some (fault LABEL o))
label_lexeme o (c ∷ d) b = if eqb b 61 then Mark o (decimal_value (c ∷ d)) else if eqb b 35 then Ref o (decimal_value (c ∷ d)) else Wrong o (Some (fault LABEL o))
