-- What the code says of a token.
use Rattle.std.specs.Prelude.{◌≡◌, ℕ, Bool, true, false, not, ◌&&◌, List, [], ◌∷◌, map}
use Rattle.mw_model.specs.Terms.Object.{Natural, Symbol, name_of_bytes}
use Rattle.mw_model.specs.Texts.Lexemes as lex
use Rattle.mw_model.specs.Texts.Lexemes.{token_form, raised, Whole, decimal_value, is_digit, is_sign, is_dot}
use Rattle.std.specs.List.{list_all}
use Rattle.mw_lex.specs.declared.token.Form.{Form}
use Rattle.mw_lex.specs.declared.token.Form.TheVariants as forms

abbrev pub IsForm : List ℕ → Form → Type 0
IsForm t forms.Digits = (list_all is_digit t ≡ true) × (token_form t ≡ Whole (Natural (decimal_value t)))
IsForm t forms.Name = token_form t ≡ Whole (Symbol (name_of_bytes (map raised t)))
IsForm t forms.Dot = token_form t ≡ lex.Point
IsForm t forms.Bad = token_form t ≡ lex.Bad

-- the token begins neither as a number does nor as dots do
abbrev pub begins_name : List ℕ → Bool
begins_name [] = false
begins_name (b ∷ t) = not (is_digit b) && (not (is_sign b) && not (is_dot b))
