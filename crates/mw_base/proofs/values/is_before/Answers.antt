-- Slices are compared as names are.
use Rattle.std.proofs.Common.{sym, ap₂, ◌∙◌}
use Rattle.mw_model.specs.Terms.Object.{is_before_bytes}
use Rattle.mw_heap.proofs.NameOrder.{is_before_bytes-slices}
use Rattle.mw_base.proofs.values.is_before.Goals as goal

pub returns : goal.returns
returns c = c.lt.ensures ∙ (is_before_bytes-slices c.name.result.now c.name-2.result.now ∙ ap₂ is_before_bytes (sym c.name.ensures) (sym c.name-2.ensures))
