-- Those up to the next one are in the set, and those that were.
use Rattle.std.proofs.Common.{ℕ, ◌⊎◌, take}
use Rattle.mw_term.specs.Watching.{IsOneOf}
use Rattle.mw_term.proofs.watch.add_all.Given as goal

abbrev pub invariant-loop-cell : goal.invariant-loop-cell
invariant-loop-cell l = (x : ℕ) → IsOneOf l.initial.set.keys x ⊎ IsOneOf (take l.cell-index l.cells) x → IsOneOf l.set.keys x
