-- All of them, in the other order.
use Rattle.std.proofs.Common.{reverse, ap, ◌∙◌}
use Rattle.mw_slice.proofs.Keeping.{whole_reversed}
use Rattle.mw_slice.proofs.picking.reversed.Goals as goal

pub returns : goal.returns
returns c = whole_reversed c.args.places.items c.reverse.new.self c.args.places.len c.args.places.ok.0 (c.reverse.ensures.after ∙ ap reverse c.as_mut_slice.ensures.value)
