-- What the run came to decides.
use Rattle.std.proofs.Common.{sym, ap, ◌∙◌, subst}
use Rattle.mw_model.specs.Events.Checking.{verdict}
use Rattle.mw_machine.specs.State.{Answers}
use Rattle.mw_kernel.proofs.judging.refusal_of_outcome.Goals as goal

pub returns-in-Value : goal.returns-in-Value
returns-in-Value c = λ o answers. c.refusal_of_value.ensures c.in-Value.field-1 ∙ ap verdict (sym (subst (Answers c.args.heap.now.objects o) c.in-Value.is answers).1)
