use Rattle.std.proofs.Common.{◌*◌, ◌%◌, ◌+◌, ◌<◌, ◌^◌, [], ◌∷◌, arith}
use Rattle.std.specs.Prelude.{codes}
use Rattle.std.proofs.lemmas.Nat.{mul-lt}
use Rattle.mw_model.specs.Texts.Printing.{numeral}
use Rattle.mw_port.proofs.Trials.{appended-is}
use Rattle.mw_port.proofs.trial.sum_formula.Goals as goal

pub overflow_mul-second : goal.overflow_mul-second
overflow_mul-second c =
    let a = c.from-first.result in
    let h : a < 2 ^ 64 = omega (arith, c.from-first.ensures) in
    omega (arith, mul-lt a a (2 ^ 64) (2 ^ 64) h h)

pub returns : goal.returns
returns c =
    let a = c.args.event in
    let b = (a * a) % 1000 in
    rw (c.push_str-4.ensures.bytes, c.write_number-3.ensures.digits, c.push_str-3.ensures.bytes, c.write_number-2.ensures.digits, c.push_str-2.ensures.bytes, c.write_number.ensures.digits, c.push_str.ensures.bytes, c.new-formula.ensures, c.from-first.ensures)
    (appended-is [] (codes "(pequal* (+ '" ∷ numeral a ∷ codes " '" ∷ numeral b ∷ codes ") '" ∷ numeral (a + b) ∷ codes ")" ∷ []))
