-- Nothing is shown of a term.
use Rattle.std.proofs.Common.{sym, ◌∙◌}
use Rattle.mw_heap.specs.Objects.{object_at}
use Rattle.mw_explain.proofs.LookingDown.{passes}
use Rattle.mw_explain.proofs.term_part.bad_term.Goals as goal

pub returns-then-is_term-clause-bad : goal.returns-then-is_term-clause-bad
returns-then-is_term-clause-bad c = sym (passes c.args.arity.now (object_at c.args.heap.now.objects c.args.x) (sym (c.is_term.ensures c.args.arity.now c.args.heap.now.objects c.requires.marked) ∙ c.if-is_term.true))
