-- The spellings so far.
use Rattle.std.proofs.Common.{◌≡◌, take, map}
use Rattle.mw_preamble.specs.Defining.{spelling_of}
use Rattle.mw_theory.proofs.coding.list_spellings.Given as goal

abbrev pub invariant-loop-definition : goal.invariant-loop-definition
invariant-loop-definition l = l.spellings.items ≡ map spelling_of (take l.definition-index l.block)
