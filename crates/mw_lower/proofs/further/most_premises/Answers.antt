-- By the rule that is named, a further one or a method.
use Rattle.std.proofs.Common.{option_map, sym, ap, ◌∙◌}
use Rattle.mw_commands.specs.Commands.Derivation.{By}
use Rattle.mw_heap.specs.Objects.{object_at}
use Rattle.mw_lower.specs.Further.{most_premises}
use Rattle.mw_lower.proofs.RuleNames.{is_further, is_method}
use Rattle.mw_lower.proofs.further.most_premises.Goals as goal

pub returns-in-Some : goal.returns-in-Some
returns-in-Some c = c.most_premises.ensures ∙ sym (ap most_premises (is_further (object_at c.args.heap.now.objects c.args.x) c.in-Some.rule (sym c.in-Some.ensures)))

pub returns-in-Some-of : goal.returns-in-Some-of
returns-in-Some-of c = c.most_subproofs.ensures ∙ sym (ap most_premises (is_method (object_at c.args.heap.now.objects c.args.x) (sym c.further_of.ensures ∙ c.in_default.is) ∙ ap (option_map By) (sym c.in-Some-of.ensures)))

pub returns-in-None : goal.returns-in-None
returns-in-None c = sym (ap most_premises (is_method (object_at c.args.heap.now.objects c.args.x) (sym c.further_of.ensures ∙ c.in_default.is) ∙ ap (option_map By) (sym c.in-None.ensures)))
