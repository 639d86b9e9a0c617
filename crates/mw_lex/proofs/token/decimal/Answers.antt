use Rattle.std.proofs.Common.{◌+◌, arith}
use Rattle.mw_lex.proofs.Decimals.{decimal_next, decimal_take}
use Rattle.mw_lex.proofs.token.decimal.Goals as goal

pub returns-then-n-value : goal.returns-then-n-value
returns-then-n-value c =
    let ds = c.args.digits.now in
    let i = c.loop-d.d-index in
    let e = decimal_next ds i c.loop-d-test.true in
    let h = decimal_take 0 ds (i + 1) in
    omega (arith, e, h, c.loop-d.invariant, c.if-n-value.true)

pub loop-d-preserved : goal.loop-d-preserved
loop-d-preserved c =
    let ds = c.args.digits.now in
    let i = c.loop-d.d-index in
    let e = decimal_next ds i c.loop-d-test.true in
    omega (arith, e, c.loop-d.invariant)
