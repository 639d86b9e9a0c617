-- What is no disjunction is none of two or more.
use Rattle.std.proofs.Common.{sym, ap, ◌∙◌}
use Rattle.mw_model.specs.Terms.Object.{Pair, same_object}
use Rattle.mw_model.specs.Laws.Rules.{not_object}
use Rattle.mw_model.specs.Laws.RulesInduction.{disjunction_object, hypotheses_object}
use Rattle.mw_heap.specs.Objects.{object_at}
use Rattle.mw_induct.proofs.steps.are_hypotheses.Goals as goal

pub returns-in_default-members_after-clause-hypotheses :
    goal.returns-in_default-members_after-clause-hypotheses
returns-in_default-members_after-clause-hypotheses c =
    let o = object_at c.args.heap.now.objects in
    let b = not_object (o c.args.b) in
    let a = o c.args.a in
    sym
    (ap (λ y. same_object (o c.args.x) (disjunction_object (Pair b (hypotheses_object a y)))) c.in-Pair.ensures.shows.2
    ∙ c.in_default-members_after.ensures.members b (disjunction_object (hypotheses_object a (Pair (o c.in-Pair.s) (o c.in-Pair.more)))))
