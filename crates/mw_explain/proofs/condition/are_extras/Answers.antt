-- A substitution.
use Rattle.std.proofs.Common.{sym, ap, ◌∙◌}
use Rattle.mw_heap.specs.Objects.{object_at}
use Rattle.mw_rules.specs.Methods.{method_of_logic}
use Rattle.mw_commands.specs.Commands.ExplanationSteps.{are_extras}
use Rattle.mw_bad_steps.proofs.Methods.{extras_of_instance}
use Rattle.mw_explain.proofs.condition.are_extras.Goals as goal

pub returns-in-Instantiation : goal.returns-in-Instantiation
returns-in-Instantiation c = λ A k.
    let x = object_at c.args.heap.now.objects c.args.extras in
    c.is_substitution.ensures A k ∙ (extras_of_instance A x ∙ ap (λ m. are_extras A (method_of_logic m) x) (sym c.in-Instantiation.is))
