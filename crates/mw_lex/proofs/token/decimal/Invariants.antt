use Rattle.std.proofs.Common.{◌≡◌, take}
use Rattle.mw_model.specs.Texts.Lexemes.{decimal_value}
use Rattle.mw_lex.proofs.token.decimal.Given as goal

abbrev pub invariant-loop-d : goal.invariant-loop-d
invariant-loop-d l = l.n ≡ decimal_value (take l.d-index l.digits)
