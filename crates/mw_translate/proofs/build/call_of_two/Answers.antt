-- The actuals, and then the call.
use Rattle.std.proofs.Common.{ap, ◌∙◌}
use Rattle.std.proofs.lemmas.Result.{IfOk-weaker}
use Rattle.mw_model.specs.Terms.Object.{Pair}
use Rattle.mw_heap.specs.Words.{word_object}
use Rattle.mw_heap.proofs.Objects.{Grows-trans}
use Rattle.mw_translate.proofs.build.call_of_two.Goals as goal

pub returns-clause-grows : goal.returns-clause-grows
returns-clause-grows c = Grows-trans _ _ _ c.in_ok-members.ensures.grows c.headed.ensures.grows

pub returns-clause-made : goal.returns-clause-made
returns-clause-made c = IfOk-weaker c.headed.result _ _ (λ r made. (made.0, made.1 ∙ ap (Pair (word_object c.args.word)) c.in_ok-members.ensures.made.1)) c.headed.ensures.made
