-- The equation, and then its negation.
use Rattle.std.proofs.Common.{ap, ◌∙◌}
use Rattle.std.proofs.lemmas.Result.{IfOk-weaker}
use Rattle.mw_model.specs.Laws.Rules.{not_object}
use Rattle.mw_heap.proofs.Objects.{Grows-trans}
use Rattle.mw_define.proofs.axioms.not_nil.Goals as goal

pub returns-clause-grows : goal.returns-clause-grows
returns-clause-grows c = Grows-trans _ _ _ c.in_ok-fails.ensures.grows c.call_of_one.ensures.grows

pub returns-clause-made : goal.returns-clause-made
returns-clause-made c = IfOk-weaker c.call_of_one.result _ _ (λ r made. (made.0, made.1 ∙ ap not_object c.in_ok-fails.ensures.made.1)) c.call_of_one.ensures.made
