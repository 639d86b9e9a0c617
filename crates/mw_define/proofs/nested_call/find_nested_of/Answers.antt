-- Nothing is known at first.
use Rattle.std.proofs.Common.{sym, subst}
use Rattle.mw_define.specs.Owed.{AreBlock}
use Rattle.mw_define.proofs.Knowing.{known-none, known-own}
use Rattle.mw_define.proofs.nested_call.find_nested_of.Goals as goal

pub find_nested-requires-clause-block : goal.find_nested-requires-clause-block
find_nested-requires-clause-block c = subst (λ ks. AreBlock c.args.heap.now.objects ks c.args.block.now) (sym c.new-known.ensures.names) c.requires

pub find_nested-requires-clause-known : goal.find_nested-requires-clause-known
find_nested-requires-clause-known c = known-own c.args.heap.now.objects c.args.names.keys c.new-known.result (known-none c.args.heap.now.objects c.args.names.keys c.new-known.result c.requires.symbols c.new-known.ensures.names c.new-known.ensures.pieces c.new-known.ensures.denials)
