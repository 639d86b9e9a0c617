-- Each instruction was looked at.
use Rattle.std.proofs.Common.{◌≡◌, slice_get, Some, inl, inr, subst, arith}
use Rattle.std.proofs.lemmas.Bool.{cases_lt}
use Rattle.std.proofs.lemmas.Option.{slice_get_within}
use Rattle.mw_code.specs.declared.instruction.Instruction.TheVariants.{Enter}
use Rattle.mw_code.proofs.whole.enters_part.Goals as goal

pub loop-index-init : goal.loop-index-init
loop-index-init c i k p above below at = omega (arith, above, below)

pub loop-index-preserved : goal.loop-index-preserved
loop-index-preserved c i k p above below at =
    elim (cases_lt i c.loop-index.index) [
      | inl l ↦ c.loop-index.invariant i k p above l at
      | inr l ↦ let same : i ≡ c.loop-index.index = omega (arith, l, below) in c.enters_at.ensures c.if-enters_at.false k p (subst (λ j. slice_get c.args.code.now j ≡ Some (Enter k p)) same at)
    ]

pub returns : goal.returns
returns c e i k p above at = c.loop-index.invariant i k p above (omega (arith, slice_get_within c.args.code.now i (Enter k p) at, c.loop-index-test.false)) at
