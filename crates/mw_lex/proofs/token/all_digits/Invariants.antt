use Rattle.std.proofs.Common.{◌≡◌, drop}
use Rattle.mw_model.specs.Texts.Lexemes.{is_digit}
use Rattle.std.specs.List.{list_all}
use Rattle.mw_lex.proofs.token.all_digits.Given as goal

abbrev pub invariant-loop-b : goal.invariant-loop-b
invariant-loop-b l = list_all is_digit l.token ≡ list_all is_digit (drop l.b-index l.token)
