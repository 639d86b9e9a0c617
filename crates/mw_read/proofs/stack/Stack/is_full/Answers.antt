use Rattle.std.proofs.Common.{◌∙◌}
use Rattle.mw_read.proofs.Turns.{top_full}
use Rattle.mw_read.proofs.stack.Stack.is_full.Goals as goal

pub returns-in-Some : goal.returns-in-Some
returns-in-Some c os s = c.is_last.ensures ∙ top_full os c.args.self.now.layers.items c.in-Some.layer c.in-Some.ensures s.pile
