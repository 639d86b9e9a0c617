-- A pair goes from the formals and the arguments that are left to the pairs so far.
use Rattle.std.proofs.Common.{sym, ap, ◌∙◌}
use Rattle.mw_heap.specs.Objects.{object_at}
use Rattle.mw_subst.proofs.PairLists.{pairs_before, sigma_object-before, AreIn-push}
use Rattle.mw_equal.proofs.Actuals.{actuals_next, actuals_end}
use Rattle.mw_equal.proofs.reduction.put_each.Goals as goal

pub loop-x-preserved : goal.loop-x-preserved
loop-x-preserved c =
    let os = c.args.heap.now.objects in
    let i = c.loop-x.invariant in
    let within = c.in-Some-members.ensures.within in
    let members = c.in-Some-members.ensures.members in
    rw c.in_ok-put.ensures.added (within.1, within.3, AreIn-push os c.loop-x.sigma _ i.2 within.0 within.2, actuals_next os c.loop-x.sigma _ _ _ _ _ _ _ members.0 members.1 i.3)

pub returns-clause-actuals : goal.returns-clause-actuals
returns-clause-actuals c =
    let os = c.args.heap.now.objects in
    let end = actuals_end (object_at os c.loop-x.formals) (object_at os c.loop-x.arguments) (sym c.in_default-members.ensures.both) in
    sym (sigma_object-before os c.loop-x.sigma) ∙ (ap (pairs_before os c.loop-x.sigma) (sym end) ∙ c.loop-x.invariant.3)
