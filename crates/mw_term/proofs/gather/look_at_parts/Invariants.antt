-- What was found, what was looked at and what waits.
use Rattle.std.proofs.Common.{◌+◌, ◌*◌, ◌-◌, length}
use Rattle.mw_term.proofs.Gathering.{IsGathering}
use Rattle.mw_term.proofs.gather.look_at_parts.Given as goal

abbrev pub invariant-loop-part : goal.invariant-loop-part
invariant-loop-part l = IsGathering l.heap.objects l.fn.term l.found.keys l.looked.keys l.waiting.items

-- a part that is looked at has at most two parts
abbrev pub decreases-loop-part : goal.decreases-loop-part
decreases-loop-part l = 2 * (2 * length l.heap.objects - length l.looked.keys) + length l.waiting.items
