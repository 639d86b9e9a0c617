-- The equation of the call and the body.
use Rattle.std.proofs.Common.{ap₂, ◌∙◌}
use Rattle.std.proofs.lemmas.Result.{IfOk-weaker}
use Rattle.mw_model.specs.Laws.Rules.{equal_object}
use Rattle.mw_heap.proofs.Objects.{object_at-Grows, Grows-trans}
use Rattle.mw_define.proofs.axioms.function_axiom.Goals as goal

pub returns-clause-made : goal.returns-clause-made
returns-clause-made c =
    let body = object_at-Grows c.args.heap.now.objects c.cons.new.self.objects c.in_ok-call.ensures.grows c.args.body c.requires.body_in in
    IfOk-weaker c.call_of_two.result _ _ (λ r made. (made.0, made.1 ∙ ap₂ equal_object c.in_ok-call.ensures.made.1 body)) c.call_of_two.ensures.made

pub returns-clause-grows : goal.returns-clause-grows
returns-clause-grows c = Grows-trans _ _ _ c.in_ok-call.ensures.grows c.call_of_two.ensures.grows
