-- Digit by digit.
use Rattle.mw_model.proofs.Numerals.{decimal_value-numeral, numeral-decimal}
use Rattle.mw_model.proofs.text.numerals.Goals as goal

pub returns-clause-read : goal.returns-clause-read
returns-clause-read c = decimal_value-numeral

pub returns-clause-as_std : goal.returns-clause-as_std
returns-clause-as_std c = numeral-decimal
