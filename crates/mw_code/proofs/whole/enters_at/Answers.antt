-- The instruction at the index is another one.
use Rattle.std.proofs.Common.{sym, ◌∙◌}
use Rattle.mw_model.proofs.ReadBack.{some_one}
use Rattle.mw_code.proofs.whole.enters_at.Goals as goal

pub returns-in_default : goal.returns-in_default
returns-in_default c e k p at = c.in_default.not-Enter k p (some_one (sym c.instruction_at.ensures ∙ at))
