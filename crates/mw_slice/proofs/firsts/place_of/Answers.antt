-- A formula by its reference.
use Rattle.std.proofs.Common.{◌∙◌}
use Rattle.mw_slice.proofs.References.{first_by-reference}
use Rattle.mw_slice.proofs.firsts.place_of.Goals as goal

pub returns : goal.returns
returns c =
    c.copied.ensures ∙ (c.get.ensures.value ∙ first_by-reference c.args.heap.now.objects c.order.ensures.distinct c.args.formula c.args.firsts.now.entries c.requires.within c.requires.firsts)
