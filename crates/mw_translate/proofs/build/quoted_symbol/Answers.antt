-- The constant, and then the call.
use Rattle.std.proofs.Common.{ap, ◌∙◌}
use Rattle.std.proofs.lemmas.Result.{IfOk-weaker}
use Rattle.mw_model.specs.Terms.Object.{symbol, list2}
use Rattle.mw_heap.proofs.Objects.{Grows-trans}
use Rattle.mw_translate.proofs.build.quoted_symbol.Goals as goal

pub returns-clause-grows : goal.returns-clause-grows
returns-clause-grows c = Grows-trans _ _ _ c.in_ok-constant.ensures.grows c.call_of_one.ensures.grows

pub returns-clause-made : goal.returns-clause-made
returns-clause-made c = IfOk-weaker c.call_of_one.result _ _ (λ r made. (made.0, made.1 ∙ ap (list2 (symbol "QUOTE")) c.in_ok-constant.ensures.made.1)) c.call_of_one.ensures.made
