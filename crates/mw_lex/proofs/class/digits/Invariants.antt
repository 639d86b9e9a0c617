use Rattle.std.proofs.Common.{◌≡◌, true, take}
use Rattle.mw_model.specs.Texts.Lexemes.{is_digit}
use Rattle.std.specs.List.{list_all}
use Rattle.mw_lex.proofs.class.digits.Given as goal

abbrev pub invariant-loop-i : goal.invariant-loop-i
invariant-loop-i l = list_all is_digit (take l.i l.bytes) ≡ true
