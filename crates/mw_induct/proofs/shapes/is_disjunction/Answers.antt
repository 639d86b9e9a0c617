-- What is no disjunction is none of two or more.
use Rattle.std.proofs.Common.{sym, ap, ◌∙◌}
use Rattle.mw_model.specs.Terms.Object.{Pair, same_object}
use Rattle.mw_model.specs.Laws.RulesInduction.{disjunction_object}
use Rattle.mw_heap.specs.Objects.{object_at}
use Rattle.mw_induct.proofs.shapes.is_disjunction.Goals as goal

pub returns-in_default-members_after : goal.returns-in_default-members_after
returns-in_default-members_after c =
    let o = object_at c.args.heap.now.objects in
    sym (c.in_default-members_after.ensures.members (o c.loop-next.first) (disjunction_object (Pair (o c.in-Pair.next) (o c.in-Pair.more)))) ∙ (ap (λ y. same_object (o c.loop-next.rest) (disjunction_object (Pair (o c.loop-next.first) y))) (sym c.in-Pair.ensures.shows.2) ∙ c.loop-next.invariant.3)
