-- The name of the word.
use Rattle.std.proofs.Common.{ap, ◌∙◌}
use Rattle.mw_model.specs.Terms.Object.{name_of_bytes}
use Rattle.mw_translate.specs.Checked.{takes}
use Rattle.mw_translate.specs.Contexts.{arities}
use Rattle.mw_translate.proofs.context.word_takes.Goals as goal

pub returns : goal.returns
returns c = c.takes.ensures ∙ ap (λ b. takes (arities c.args.context.now) (name_of_bytes b) c.args.count) c.name.ensures
