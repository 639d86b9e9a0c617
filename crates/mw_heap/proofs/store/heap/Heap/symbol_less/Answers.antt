-- Slices are compared as names are.
use Rattle.std.proofs.Common.{sym, ap₂, ◌∙◌}
use Rattle.mw_model.specs.Terms.Object.{is_before_bytes}
use Rattle.mw_heap.proofs.NameOrder.{is_before_bytes-slices}
use Rattle.mw_heap.proofs.store.heap.Heap.symbol_less.Goals as goal

pub returns : goal.returns
returns c = c.lt.ensures ∙ (is_before_bytes-slices c.name_of.result.now c.name_of-2.result.now ∙ ap₂ is_before_bytes (sym c.name_of.ensures) (sym c.name_of-2.ensures))
