-- Equal objects have equal references.
use Rattle.std.proofs.Common.{◌∙◌}
use Rattle.mw_rules.proofs.RuleLemmas.{known-member}
use Rattle.mw_rules.proofs.rules.is_known.Goals as goal

pub returns : goal.returns
returns c = c.holds.ensures ∙ known-member c.args.heap.now.objects c.args.known.now c.args.x c.order.ensures.distinct c.requires.within c.requires.known
