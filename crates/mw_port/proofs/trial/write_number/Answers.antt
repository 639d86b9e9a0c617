use Rattle.std.proofs.Common.{◌++◌, sym, ap, ◌∙◌, arith}
use Rattle.mw_model.proofs.Numerals.{numeral-decimal}
use Rattle.mw_port.proofs.trial.write_number.Goals as goal

pub returns-clause-digits : goal.returns-clause-digits
returns-clause-digits c =
    c.push_str.ensures.bytes
    ∙ ap (λ t. c.args.formula.now.bytes ++ t) (c.format.ensures.text ∙ sym (numeral-decimal c.args.n (omega arith)))
