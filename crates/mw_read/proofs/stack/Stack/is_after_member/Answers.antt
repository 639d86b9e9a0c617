use Rattle.std.proofs.Common.{◌∙◌}
use Rattle.mw_read.proofs.Turns.{top_after}
use Rattle.mw_read.proofs.stack.Stack.is_after_member.Goals as goal

pub returns-in-Some : goal.returns-in-Some
returns-in-Some c os s = c.is_item.ensures ∙ top_after os c.args.self.now.layers.items c.in-Some.layer c.in-Some.ensures s.pile
