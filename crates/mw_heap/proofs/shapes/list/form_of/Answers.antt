-- The word goes before the list of the members.
use Rattle.std.proofs.Common.{ap₂, ◌∙◌}
use Rattle.std.proofs.lemmas.Result.{IfOk-weaker}
use Rattle.mw_model.specs.Terms.Object.{Pair}
use Rattle.mw_heap.proofs.Objects.{Grows-trans, IsIn-Grows, object_at-Grows}
use Rattle.mw_heap.proofs.shapes.list.form_of.Goals as goal

pub cons-requires-clause-first_in : goal.cons-requires-clause-first_in
cons-requires-clause-first_in c = c.in_ok-head.ensures.made.0

pub cons-requires-clause-second_in : goal.cons-requires-clause-second_in
cons-requires-clause-second_in c = IsIn-Grows _ _ c.in_ok-head.ensures.grows c.in_ok-rest.rest c.in_ok-rest.ensures.made.0

pub returns-in_err-head-clause-grows : goal.returns-in_err-head-clause-grows
returns-in_err-head-clause-grows c = Grows-trans _ _ _ c.in_ok-rest.ensures.grows c.in_err-head.ensures.grows

pub returns-clause-grows : goal.returns-clause-grows
returns-clause-grows c = Grows-trans _ _ _ c.in_ok-rest.ensures.grows (Grows-trans _ _ _ c.in_ok-head.ensures.grows c.cons.ensures.grows)

pub returns-clause-made : goal.returns-clause-made
returns-clause-made c =
    let rest = object_at-Grows _ _ c.in_ok-head.ensures.grows c.in_ok-rest.rest c.in_ok-rest.ensures.made.0 in
    let parts = ap₂ Pair c.in_ok-head.ensures.made.1 (rest ∙ c.in_ok-rest.ensures.made.1) in
    IfOk-weaker c.cons.result _ _ (λ r made. (made.0, made.1 ∙ parts)) c.cons.ensures.made
