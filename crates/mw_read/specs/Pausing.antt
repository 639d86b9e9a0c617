-- A text that goes on in the next piece.
use Rattle.std.specs.Prelude.{◌≡◌, ℕ, ◌<◌, ◌≤◌, true, List, length}
use Rattle.mw_model.specs.Terms.Object.{is_name_byte}
use Rattle.mw_model.specs.Texts.Lexemes.{is_constituent, is_digit}
use Rattle.std.specs.List.{list_all}
use Rattle.mw_read.specs.declared.parser.Begun.{Begun}
use Rattle.mw_read.specs.declared.parser.Begun.TheVariants.{Token, Bars, Hash}

-- These bytes of the text may be followed by any others.
abbrev pub GoesOn : Begun → List ℕ → Type 0
GoesOn Token t = (list_all is_constituent t ≡ true) × (0 < length t)
GoesOn Bars t = list_all is_name_byte t ≡ true
GoesOn Hash t = (list_all is_digit t ≡ true) × (length t ≤ 9)
GoesOn m t = ⊥
