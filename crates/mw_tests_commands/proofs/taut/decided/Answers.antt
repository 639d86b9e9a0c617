-- The marks say that it is a formula.
use Rattle.std.proofs.Common.{sym, ◌∙◌}
use Rattle.mw_tests_commands.proofs.taut.decided.Goals as goal

pub decide-requires-clause-formula : goal.decide-requires-clause-formula
decide-requires-clause-formula c = sym (c.is_formula.ensures _ c.args.heap.now.objects c.in_ok-marks.ensures.marked) ∙ c.if-not-is_formula.false
