-- The needs of the places from the first one on, up to the next instruction.
use Rattle.std.proofs.Common.{◌≡◌, take, drop}
use Rattle.mw_code.specs.Needs.{needs}
use Rattle.mw_code.proofs.need.find_need.Given as goal

abbrev pub invariant-loop-index : goal.invariant-loop-index
invariant-loop-index l = l.needs.items ≡ drop l.from (needs l.signature (take l.index l.code))
