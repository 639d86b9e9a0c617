-- Those up to the next one stand in front of those that were known.
use Rattle.std.proofs.Common.{◌≡◌, ◌++◌, take, reverse}
use Rattle.mw_theory.proofs.adding.add_known.Given as goal

abbrev pub invariant-loop-formula : goal.invariant-loop-formula
invariant-loop-formula l = l.known ≡ reverse (take l.formula-index l.formulas) ++ l.initial.known
