-- The functions so far.
use Rattle.std.proofs.Common.{◌≡◌, take, map}
use Rattle.mw_theory.specs.Admitting.{function_of_entry}
use Rattle.mw_theory.proofs.admitting.functions_of.Given as goal

abbrev pub invariant-loop-entry : goal.invariant-loop-entry
invariant-loop-entry l = l.functions.items ≡ map function_of_entry (take l.entry-index l.entries)
