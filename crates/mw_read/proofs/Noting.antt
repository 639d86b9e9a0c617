-- An answer after which no other comes is noted.
use Rattle.std.proofs.Common.{◌≡◌, Some, refl}
use Rattle.mw_read.specs.Standing.{IsLast, lasting}
use Rattle.mw_read.specs.declared.step.Step.{Step}
use Rattle.mw_read.specs.declared.step.Step.TheVariants as steps

pub last_noted : (s : Step) → IsLast s → lasting s ≡ Some s
last_noted (steps.Syntax k o) h = refl
last_noted steps.Memory h = refl
last_noted (steps.Datum r) h = absurd h
last_noted (steps.TooBig w l) h = absurd h
last_noted steps.More h = absurd h
last_noted steps.End h = absurd h
