use Rattle.mw_heap.specs.Objects.{object_at}
use Rattle.mw_print.proofs.Bare.{text_of-symbol}
use Rattle.mw_print.proofs.atom.write_atom.Goals as goal

pub returns-in-Symbol : goal.returns-in-Symbol
returns-in-Symbol c = rw (text_of-symbol (object_at c.args.heap.now.objects c.args.x) c.name_of.result.now c.in-Symbol.ensures.shows c.name_of.ensures) c.write_name.ensures
