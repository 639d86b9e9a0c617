-- The marks say that it is a formula.
use Rattle.std.proofs.Common.{sym, ◌∙◌}
use Rattle.mw_tests_rules.proofs.equal.is_instance.Goals as goal

pub instantiation-requires-clause-formula : goal.instantiation-requires-clause-formula
instantiation-requires-clause-formula c = (_, sym (c.is_formula.ensures _ c.args.heap.now.objects c.in_ok-marks.ensures.marked) ∙ c.if-not-is_formula.false)
