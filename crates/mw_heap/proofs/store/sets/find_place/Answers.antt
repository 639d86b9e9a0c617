-- The name is listed with the index, and its cell stands in the place.
use Rattle.std.proofs.Common.{rules}
use Rattle.mw_heap.proofs.store.sets.find_place.Goals as goal

pub returns-then-is_place : goal.returns-then-is_place
returns-then-is_place c = (c.in_ok-index.index, c.in_ok-index.ensures, c.is_place.ensures (search rules))
