-- A pair goes from what is left to the pairs so far.
use Rattle.std.proofs.Common.{◌≡◌, ℕ, true, sym, ap, ◌∙◌, subst}
use Rattle.mw_model.specs.Terms.Object.{Pair}
use Rattle.mw_heap.specs.Objects.{object_at}
use Rattle.mw_heap.proofs.NoPair.{shown_no_pair}
use Rattle.mw_subst.specs.Pairs.{is_list_of_pairs}
use Rattle.mw_subst.proofs.PairLists.{pairs_before, pairs_before-push, sigma_object-before, AreIn-push, pairs_end}
use Rattle.mw_subst.proofs.read.sigma_of.Goals as goal

pub loop-pair-preserved : goal.loop-pair-preserved
loop-pair-preserved c =
    let os = c.args.heap.now.objects in
    let outer = c.in-Pair.ensures.shows in
    let inner = c.in-Pair-view.ensures.shows in
    let i = c.loop-pair.invariant in
    let p : ℕ × ℕ = (c.in-Pair-view.variable, c.in-Pair-view.term) in
    let shape = outer.2 ∙ ap (λ y. Pair y (object_at os c.in-Pair.more)) inner.2 in
    let pairs = subst (λ y. is_list_of_pairs y ≡ true) shape i.2 in
    rw (c.in_ok-put.ensures.added) (outer.1, AreIn-push os c.loop-pair.sigma p i.1 inner.0 inner.1, pairs, pairs_before-push os c.loop-pair.sigma p (object_at os c.in-Pair.more) ∙ (ap (pairs_before os c.loop-pair.sigma) (sym shape) ∙ i.3))

pub returns : goal.returns
returns c =
    let os = c.args.heap.now.objects in
    let i = c.loop-pair.invariant in
    let end = pairs_end (object_at os c.loop-pair.rest) i.2 (shown_no_pair os c.view.result _ c.view.ensures.shows c.in_default.not-Pair) in
    record { within = i.1; read = sym (sigma_object-before os c.loop-pair.sigma) ∙ (ap (pairs_before os c.loop-pair.sigma) (sym end) ∙ i.3) }
