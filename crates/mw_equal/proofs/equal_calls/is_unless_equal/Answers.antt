-- What is no disjunction is none of these.
use Rattle.std.proofs.Common.{sym, ap₂, ◌∙◌}
use Rattle.mw_model.specs.Terms.Object.{same_object}
use Rattle.mw_model.specs.Laws.Rules.{unless_equal_object}
use Rattle.mw_heap.specs.Objects.{object_at}
use Rattle.mw_equal.proofs.equal_calls.is_unless_equal.Goals as goal

pub returns-in_default-members_after : goal.returns-in_default-members_after
returns-in_default-members_after c =
    let os = c.args.heap.now.objects in
    let members = c.in-Some.ensures.members in
    sym (c.in_default-members_after.ensures.members _ _) ∙ (ap₂ (λ x y. same_object (object_at os c.loop-a.rest) (unless_equal_object x y (object_at os c.args.end))) (sym members.0) (sym members.1) ∙ c.loop-a.invariant.3)
