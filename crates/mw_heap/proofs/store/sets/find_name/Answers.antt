-- A name is found by its bytes.
use Rattle.mw_heap.proofs.NameSet.{found_names}
use Rattle.mw_heap.proofs.store.sets.find_name.Goals as goal

pub returns : goal.returns
returns c = found_names c.args.names.now.keys c.args.name.now c.get_index_of.result c.get_index_of.ensures.index
