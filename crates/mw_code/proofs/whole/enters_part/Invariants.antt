-- None that was passed enters a part.
use Rattle.std.proofs.Common.{◌≡◌, ℕ, ◌<◌, ◌≤◌, slice_get, Some}
use Rattle.mw_code.specs.declared.instruction.Instruction.TheVariants.{Enter}
use Rattle.mw_code.proofs.whole.enters_part.Given as goal

abbrev pub invariant-loop-index : goal.invariant-loop-index
invariant-loop-index l = (i k p : ℕ) → l.from ≤ i → i < l.index → slice_get l.code i ≡ Some (Enter k p) → ⊥
