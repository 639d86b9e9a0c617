-- A formula's object is substituted part by part, and each part is a term's.
use Rattle.std.proofs.Common.{◌∙◌}
use Rattle.mw_model.specs.Terms.Substitution.{substitution_object}
use Rattle.mw_subst.proofs.CallerLemmas.{substitute_object-formula}
use Rattle.mw_subst.proofs.formula.formulas_substituted.Goals as goal

pub returns : goal.returns
returns c A s F i = substitute_object-formula (substitution_object s) F ∙ c.rules_on_objects.ensures.substituted_formula A s F i
