use Rattle.std.proofs.Common.{arith}
use Rattle.mw_lex.proofs.Decimals.{decimal_next, power_more, power_next, power_small}
use Rattle.mw_lex.proofs.token.few_digits.Goals as goal

pub overflow_mul-n : goal.overflow_mul-n
overflow_mul-n c = let h = power_small c.loop-d.d-index (omega arith) in omega (arith, h, c.loop-d.invariant.below)

pub overflow_add-n : goal.overflow_add-n
overflow_add-n c =
    let h = power_small c.loop-d.d-index (omega arith) in
    let k = power_next c.args.digits.now c.loop-d.d-index c.loop-d.n c.loop-d-test.true c.requires.digits c.loop-d.invariant.below in
    omega (arith, h, k, power_more c.loop-d.d-index)

pub loop-d-preserved : goal.loop-d-preserved
loop-d-preserved c =
    let ds = c.args.digits.now in
    let e = decimal_next ds c.loop-d.d-index c.loop-d-test.true in
    record { value = omega (arith, e, c.loop-d.invariant.value); below = power_next ds c.loop-d.d-index c.loop-d.n c.loop-d-test.true c.requires.digits c.loop-d.invariant.below }
