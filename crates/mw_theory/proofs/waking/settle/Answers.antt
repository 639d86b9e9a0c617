-- What is forgotten is right under any table.
use Rattle.mw_theory.proofs.waking.settle.Goals as goal

pub returns-then-is_err-clause-marked : goal.returns-then-is_err-clause-marked
returns-then-is_err-clause-marked c = c.give_up.ensures.marked c.args.arity.now c.args.heap.now.objects

pub returns-then-is_err-clause-watch : goal.returns-then-is_err-clause-watch
returns-then-is_err-clause-watch c = c.give_up.ensures.watch c.args.arity.now c.args.heap.now.objects
