-- A call is made from its actuals.
use Rattle.std.proofs.Common.{sym, ap, ◌∙◌}
use Rattle.mw_model.specs.Terms.Object.{Pair}
use Rattle.mw_model.specs.Laws.Rules.{substitute_object, substitute_each_object}
use Rattle.mw_heap.specs.Objects.{object_at}
use Rattle.mw_subst.specs.Sigma.{sigma_object}
use Rattle.mw_subst.proofs.Made.{result_found, substitute-list}
use Rattle.mw_subst.proofs.Needed.{call-needs}
use Rattle.mw_subst.proofs.walk.step_term.Goals as goal

pub cons-requires-clause-second_in : goal.cons-requires-clause-second_in
cons-requires-clause-second_in c =
    let os = c.args.heap.now.objects in
    let s = sigma_object os c.args.sigma.now in
    (result_found os (substitute_each_object s) c.in-Pair.actuals c.in-Some.rest c.args.memo.now.lists c.requires.made.1 (sym c.find.ensures ∙ c.in-Some.is)).0

pub returns-in_ok-cons-in-Some-clause-step : goal.returns-in_ok-cons-in-Some-clause-step
returns-in_ok-cons-in-Some-clause-step c =
    let os = c.args.heap.now.objects in
    let s = sigma_object os c.args.sigma.now in
    let h = object_at os c.in-Pair.head in
    let rest = result_found os (substitute_each_object s) c.in-Pair.actuals c.in-Some.rest c.args.memo.now.lists c.requires.made.1 (sym c.find.ensures ∙ c.in-Some.is) in (
      c.in_ok-cons-in-Some.ensures.made.0,
      c.in_ok-cons-in-Some.ensures.made.1
          ∙ (ap (Pair h) rest.1
          ∙ (sym (substitute-list s h (object_at os c.in-Pair.actuals) (sym c.is_word.ensures ∙ c.if-is_word.false)) ∙ ap (substitute_object s) (sym c.in-Pair.ensures.shows.2))),
      call-needs os c.order.ensures.distinct c.args.memo.now.terms c.args.memo.now.lists c.args.x c.in-Pair.head c.in-Pair.actuals c.in-Pair.ensures.shows.0 c.in-Pair.ensures.shows.1 c.in-Pair.ensures.shows.2 c.in-Some.rest (sym c.find.ensures ∙ c.in-Some.is),
    )

pub returns-in-None-clause-step : goal.returns-in-None-clause-step
returns-in-None-clause-step c =
    let os = c.args.heap.now.objects in
    (c.in-Pair.ensures.below.1, sym c.find.ensures ∙ c.in-None.is, (c.in-Pair.ensures.shows.1, object_at os c.in-Pair.head, c.in-Pair.ensures.shows.2, sym c.is_word.ensures ∙ c.if-is_word.false))
