-- Past the end there is none, and within the place is the number less one.
use Rattle.std.proofs.Common.{sym, arith}
use Rattle.mw_flat.proofs.ByNumber.{numbered-past, numbered-read}
use Rattle.mw_flat.proofs.numbered.numbered.Goals as goal

pub returns-then-number-conclusions : goal.returns-then-number-conclusions
returns-then-number-conclusions c = sym (numbered-past c.args.conclusions.now c.args.number (omega (arith, c.if-number-conclusions.true)))

pub returns : goal.returns
returns c = numbered-read c.args.conclusions.now c.args.number _ c.index-conclusions-number.result (omega (arith, c.if-number-eq0.false)) (omega (arith, c.if-number-eq0.false, c.if-number-conclusions.false)) c.index-conclusions-number.is
