-- No variables were found.
use Rattle.std.proofs.Common.{length, nat_eq, ap, ◌∙◌}
use Rattle.mw_kernel.proofs.Evaluating.{no_variables}
use Rattle.mw_kernel.proofs.eval.has_no_variables.Goals as goal

pub returns : goal.returns
returns c = λ t h. c.is_empty.ensures ∙ (ap (λ vs. nat_eq (length vs) 0) c.as_slice-2.ensures ∙ no_variables c.args.heap.now.objects c.in_ok-vars.field-0 t (c.in_ok-vars.ensures.variables t h))
