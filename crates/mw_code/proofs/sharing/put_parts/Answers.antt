-- The parts of a cell are in the heap.
use Rattle.mw_code.proofs.Bodies.{cells-in}
use Rattle.mw_code.proofs.sharing.put_parts.Goals as goal

pub returns : goal.returns
returns c =
    let os = c.args.heap.now.objects in
    let old = c.args.cells.now.keys in
    let mid = c.insert.new.self.keys in
    let one = cells-in os old mid c.in-Pair.first c.in_ok-insert.ensures.keys c.requires.within c.in-Pair.ensures.shows.0 in
    cells-in os mid c.insert-2.new.self.keys c.in-Pair.rest c.in_ok-insert-2.ensures.keys one c.in-Pair.ensures.shows.1
