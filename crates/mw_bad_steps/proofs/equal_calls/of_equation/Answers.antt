-- What is no equation.
use Rattle.mw_heap.specs.Objects.{object_at}
use Rattle.mw_bad_steps.proofs.EqualCalls.{no_equation}
use Rattle.mw_bad_steps.proofs.equal_calls.of_equation.Goals as goal

pub returns-in_default-clause-meant : goal.returns-in_default-clause-meant
returns-in_default-clause-meant c = λ A F i e. no_equation c.args.heap.now.objects c.args.heap.now.objects F (object_at c.args.heap.now.objects c.args.equation) e c.in_default.ensures.members
