use Rattle.std.proofs.Common.{◌≡◌, ◌<◌, take, drop}
use Rattle.mw_model.specs.Texts.Lexemes.{is_digit, decimal_value}
use Rattle.std.specs.List.{list_all}
use Rattle.mw_read.proofs.Digits.{power}
use Rattle.mw_request.proofs.number.decimal.Given as goal

abbrev pub invariant-loop-byte : goal.invariant-loop-byte
invariant-loop-byte l = record {
  digits : list_all is_digit l.bytes ≡ list_all is_digit (drop l.byte-index l.bytes);
  value : l.number ≡ decimal_value (take l.byte-index l.bytes);
  below : l.number < power l.byte-index;
}
