-- Nothing is shown of a formula.
use Rattle.std.proofs.Common.{refl, sym, ◌∙◌}
use Rattle.mw_heap.specs.Objects.{object_at}
use Rattle.mw_explain.proofs.LookingInFormulas.{formula_passes}
use Rattle.mw_explain.proofs.formula_part.bad_formula.Goals as goal

pub returns-then-is_formula-clause-bad : goal.returns-then-is_formula-clause-bad
returns-then-is_formula-clause-bad c = sym (formula_passes c.args.arity.now (object_at c.args.heap.now.objects c.args.x) (sym (c.is_formula.ensures c.args.arity.now c.args.heap.now.objects c.requires.marked) ∙ c.if-is_formula.true))

pub loop-part-init : goal.loop-part-init
loop-part-init c = record { within = c.requires.within; none = sym (c.is_formula.ensures c.args.arity.now c.args.heap.now.objects c.requires.marked) ∙ c.if-is_formula.false; same = refl }
