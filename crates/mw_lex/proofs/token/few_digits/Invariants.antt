use Rattle.std.proofs.Common.{◌≡◌, ◌<◌, take}
use Rattle.mw_model.specs.Texts.Lexemes.{decimal_value}
use Rattle.mw_lex.proofs.Decimals.{power}
use Rattle.mw_lex.proofs.token.few_digits.Given as goal

abbrev pub invariant-loop-d : goal.invariant-loop-d
invariant-loop-d l = record { value : l.n ≡ decimal_value (take l.d-index l.digits); below : l.n < power l.d-index }
