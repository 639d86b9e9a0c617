-- The constant, and then the equation.
use Rattle.std.proofs.Common.{ap₂, ◌∙◌}
use Rattle.std.proofs.lemmas.Result.{IfOk-weaker}
use Rattle.mw_model.specs.Laws.Rules.{equal_object}
use Rattle.mw_heap.proofs.Objects.{object_at-Grows, IsIn-Grows, Grows-trans}
use Rattle.mw_define.proofs.axioms.equal_nil.Goals as goal

pub call_of_two-requires-clause-first_in : goal.call_of_two-requires-clause-first_in
call_of_two-requires-clause-first_in c = IsIn-Grows _ _ c.in_ok-nil.ensures.grows c.args.x c.requires

pub returns-clause-grows : goal.returns-clause-grows
returns-clause-grows c = Grows-trans _ _ _ c.in_ok-nil.ensures.grows c.call_of_two.ensures.grows

pub returns-clause-made : goal.returns-clause-made
returns-clause-made c =
    let x = object_at-Grows _ _ c.in_ok-nil.ensures.grows c.args.x c.requires in
    IfOk-weaker c.call_of_two.result _ _ (λ r made. (made.0, made.1 ∙ ap₂ equal_object x c.in_ok-nil.ensures.made.1)) c.call_of_two.ensures.made
