-- A list of terms is made from its first and the rest.
use Rattle.std.proofs.Common.{sym, ap, ap₂, ◌∙◌}
use Rattle.mw_model.specs.Terms.Object.{Pair}
use Rattle.mw_model.specs.Laws.Rules.{substitute_object, substitute_each_object}
use Rattle.mw_subst.specs.Sigma.{sigma_object}
use Rattle.mw_subst.proofs.Made.{result_found, none_found}
use Rattle.mw_heap.specs.Objects.{object_at}
use Rattle.mw_subst.proofs.Needed.{list-needs}
use Rattle.mw_subst.proofs.walk.step_terms.Goals as goal

pub cons-requires-clause-first_in : goal.cons-requires-clause-first_in
cons-requires-clause-first_in c =
    let os = c.args.heap.now.objects in
    (result_found os (substitute_object (sigma_object os c.args.sigma.now)) c.in-Pair.first c.in-Some.a c.args.memo.now.terms c.requires.made.0 (sym c.find.ensures ∙ c.in-Some.is)).0

pub cons-requires-clause-second_in : goal.cons-requires-clause-second_in
cons-requires-clause-second_in c =
    let os = c.args.heap.now.objects in
    (result_found os (substitute_each_object (sigma_object os c.args.sigma.now)) c.in-Pair.rest c.in-Some-find.d c.args.memo.now.lists c.requires.made.1 (sym c.find-2.ensures ∙ c.in-Some-find.is)).0

pub returns-clause-step : goal.returns-clause-step
returns-clause-step c =
    let os = c.args.heap.now.objects in
    let s = sigma_object os c.args.sigma.now in
    let first = result_found os (substitute_object s) c.in-Pair.first c.in-Some.a c.args.memo.now.terms c.requires.made.0 (sym c.find.ensures ∙ c.in-Some.is) in
    let rest = result_found os (substitute_each_object s) c.in-Pair.rest c.in-Some-find.d c.args.memo.now.lists c.requires.made.1 (sym c.find-2.ensures ∙ c.in-Some-find.is) in
    (c.in_ok-cons.ensures.made.0, c.in_ok-cons.ensures.made.1 ∙ (ap₂ Pair first.1 rest.1 ∙ ap (substitute_each_object s) (sym c.in-Pair.ensures.shows.2)), list-needs os c.order.ensures.distinct c.args.memo.now.terms c.args.memo.now.lists c.args.x c.in-Pair.first c.in-Pair.rest c.in-Pair.ensures.shows.0 c.in-Pair.ensures.shows.1 c.in-Pair.ensures.shows.2 c.in-Some.a c.in-Some-find.d (sym c.find.ensures ∙ c.in-Some.is) (sym c.find-2.ensures ∙ c.in-Some-find.is))

pub returns-in_default-find-clause-step : goal.returns-in_default-find-clause-step
returns-in_default-find-clause-step c =
    let os = c.args.heap.now.objects in
    (c.in-Pair.ensures.below.0, sym c.find.ensures ∙ none_found c.find.result c.in_default-find.not-Some, (c.in-Pair.ensures.shows.0, object_at os c.in-Pair.rest, c.in-Pair.ensures.shows.2))

pub returns-in_default-find-2-clause-step : goal.returns-in_default-find-2-clause-step
returns-in_default-find-2-clause-step c =
    let os = c.args.heap.now.objects in
    (c.in-Pair.ensures.below.1, sym c.find-2.ensures ∙ none_found c.find-2.result c.in_default-find-2.not-Some, (c.in-Pair.ensures.shows.1, object_at os c.in-Pair.first, c.in-Pair.ensures.shows.2))
