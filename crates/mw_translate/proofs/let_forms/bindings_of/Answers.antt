-- One more binding was read.
use Rattle.std.proofs.Common.{sym, subst}
use Rattle.mw_model.specs.Terms.Object.{Pair}
use Rattle.mw_translate.specs.Lets.{ArePairsIn}
use Rattle.mw_translate.proofs.Bindings.{AreSplit, two_of, split-more, split-end, split-end-values}
use Rattle.mw_heap.specs.Objects.{object_at}
use Rattle.mw_heap.proofs.NoPair.{shown_no_pair}
use Rattle.mw_translate.proofs.LetForms.{pairs-push}
use Rattle.mw_translate.proofs.let_forms.bindings_of.Goals as goal

pub loop-first-preserved : goal.loop-first-preserved
loop-first-preserved c =
    let os = c.args.heap.now.objects in
    let h = c.loop-first.invariant in
    let read = c.loop-first.bindings.items in
    record {
      names_in = c.in-Pair.ensures.shows.1;
      values_in = c.in-Pair-view.ensures.shows.1;
      within = subst (ArePairsIn os) (sym c.in_ok-push.ensures.items) (pairs-push os read (two_of c.in-Pair.first c.in-Pair-view.second) h.within c.in-Pair.ensures.shows.0 c.in-Pair-view.ensures.shows.0);
      split = λ ps n v.
          subst (λ l. AreSplit os l (object_at os c.in-Pair.others) (object_at os c.in-Pair-view.more) ps) (sym c.in_ok-push.ensures.items)
          (split-more os read ps (two_of c.in-Pair.first c.in-Pair-view.second) (object_at os c.in-Pair.others) (object_at os c.in-Pair-view.more)
          (subst (λ x. AreSplit os read x (Pair (object_at os c.in-Pair-view.second) (object_at os c.in-Pair-view.more)) ps) c.in-Pair.ensures.shows.2
          (subst (λ x. AreSplit os read (object_at os c.loop-first.names) x ps) c.in-Pair-view.ensures.shows.2 (h.split ps n v))));
    }

pub returns-in_default-view : goal.returns-in_default-view
returns-in_default-view c =
    let os = c.args.heap.now.objects in
    let h = c.loop-first.invariant in
    record {
      within = h.within;
      bindings = λ ps n v. split-end-values os c.loop-first.bindings.items ps (object_at os c.loop-first.names) (object_at os c.loop-first.values) (shown_no_pair os c.view-in-Pair.result (object_at os c.loop-first.values) c.view-in-Pair.ensures.shows c.in_default-view.not-Pair) (h.split ps n v);
    }

pub returns : goal.returns
returns c =
    let os = c.args.heap.now.objects in
    let h = c.loop-first.invariant in
    record {
      within = h.within;
      bindings = λ ps n v. split-end os c.loop-first.bindings.items ps (object_at os c.loop-first.names) (object_at os c.loop-first.values) (shown_no_pair os c.view.result (object_at os c.loop-first.names) c.view.ensures.shows c.in_default.not-Pair) (h.split ps n v);
    }
