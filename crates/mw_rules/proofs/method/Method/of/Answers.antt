-- The symbol is that of the word, or of none.
use Rattle.std.proofs.Common.{sym, ap, ◌∙◌}
use Rattle.mw_model.specs.Proofs.Judgment.{methods, method_among}
use Rattle.mw_heap.specs.Objects.{object_at}
use Rattle.mw_rules.proofs.MethodNames.{no_word}
use Rattle.mw_rules.proofs.method.Method.of.Goals as goal

pub returns-in-Some : goal.returns-in-Some
returns-in-Some c = c.of_word.ensures ∙ ap (method_among methods) (sym c.in-Some.ensures)

pub returns-in-None : goal.returns-in-None
returns-in-None c = no_word (object_at c.args.heap.now.objects c.args.x) c.in-None.ensures
