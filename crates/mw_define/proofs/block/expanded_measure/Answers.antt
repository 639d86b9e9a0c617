-- What the term is read from.
use Rattle.mw_heap.specs.Objects.{object_at}
use Rattle.mw_define.proofs.Expanding.{expansion-from}
use Rattle.mw_define.proofs.block.expanded_measure.Goals as goal

pub returns-in-Term-clause-expanded : goal.returns-in-Term-clause-expanded
returns-in-Term-clause-expanded c =
    let m = c.in-Term.ensures.expanded in
    expansion-from c.args.arity.now c.expand.new.heap.objects (object_at c.args.heap.now.objects c.args.raw) c.in-Term.term m.0 m.1 m.2 m.3
