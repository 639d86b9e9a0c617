-- What waits is in the heap.
use Rattle.std.proofs.Common.{All}
use Rattle.mw_code.specs.Visits.{IsVisit}
use Rattle.mw_code.proofs.shared.find_shared.Given as goal

abbrev pub invariant-loop : goal.invariant-loop
invariant-loop l = All (IsVisit l.heap.objects) l.walk.waiting.items
