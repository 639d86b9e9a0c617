-- What a token comes to in a heap.
use Rattle.std.specs.Prelude.{◌≡◌, ℕ, Bool, false, ltb, List, if◌then◌else◌}
use Rattle.mw_model.specs.Terms.Object.{Object, Natural, Symbol, Pair}
use Rattle.mw_model.specs.Texts.Lexemes as lex
use Rattle.mw_model.specs.Texts.Lexemes.{TokenForm, Whole, Point}
use Rattle.mw_model.specs.Events.Fate.{is_out_of_range}
use Rattle.mw_model.specs.Events.Evaluation.{range}
use Rattle.mw_heap.specs.Objects.{object_at, IsIn}
use Rattle.mw_lex.specs.declared.token.Token.{Token}
use Rattle.mw_lex.specs.declared.token.Token.TheVariants as tokens

-- Naturals past 128 bits: the code puts 0 in their place and remembers that it did.
abbrev pub cut : ℕ → ℕ
cut n = if ltb n range then n else 0

abbrev pub clamp : Object → Object
clamp (Natural n) = Natural (cut n)
clamp (Symbol s) = Symbol s
clamp (Pair a d) = Pair (clamp a) (clamp d)

abbrev pub form_big : TokenForm → Bool
form_big (Whole x) = is_out_of_range x
form_big f = false

-- a token of this form
abbrev pub IsToken : List Object → Token → TokenForm → Type 0
IsToken os (tokens.Atom r) f = (x : Object) × (f ≡ Whole x) × IsIn os r × (object_at os r ≡ clamp x)
IsToken os tokens.Dot f = f ≡ Point
IsToken os tokens.Bad f = f ≡ lex.Bad
