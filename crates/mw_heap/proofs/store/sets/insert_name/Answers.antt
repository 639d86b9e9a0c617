-- A name is listed already, or goes last.
use Rattle.std.proofs.Common.{refl}
use Rattle.mw_heap.proofs.NameSet.{IsInjective-bytes_of, inserted_name}
use Rattle.mw_heap.proofs.store.sets.insert_name.Goals as goal

pub returns-clause-inserted : goal.returns-clause-inserted
returns-clause-inserted c =
    let e = c.in_ok-index.ensures in
    inserted_name c.args.names.now.keys _ c.args.name _ _ refl e.keys e.stored

pub returns-clause-distinct : goal.returns-clause-distinct
returns-clause-distinct c = IsInjective-bytes_of _ c.in_ok-index.ensures.unique
