-- A formula and its proof at a time.
use Rattle.std.proofs.Common.{sym, ap, ◌∙◌}
use Rattle.mw_heap.specs.Objects.{object_at}
use Rattle.mw_heap.proofs.Objects.{Grows-trans}
use Rattle.mw_heap.proofs.NoPair.{shown_no_pair}
use Rattle.mw_theory.specs.Knowledge.{parts_of, meant}
use Rattle.mw_theory.proofs.Held.{held-grows}
use Rattle.mw_theory.proofs.Judging.{same_judge_later}
use Rattle.mw_theory.proofs.ProofLists.{never_too_few, refused_here, Walks-next, none_refused}
use Rattle.mw_theory.proofs.proofs.first_refusal.Goals as goal

pub unreachable-requires : goal.unreachable-requires
unreachable-requires g c =
    let (os, grows, ready) = c.requires.may.ready in
    let now = c.loop-formula.heap.objects in
    let no_proof = shown_no_pair now c.view-in-Pair.result (object_at now c.loop-formula.rest) c.view-in-Pair.ensures.shows c.in_default-view.not-Pair in
    never_too_few _ _ _ c.args.obligations c.args.proofs _ _ _ _ _ _ (c.loop-formula.invariant.0 os grows ready) c.in-Pair.ensures.below.0 c.in-Pair.ensures.below.1 c.in-Pair.ensures.shows.2 no_proof

pub refusal-requires-clause-held : goal.refusal-requires-clause-held
refusal-requires-clause-held g c =
    let (os, grows, ready) = c.requires.may.ready in
    held-grows _ _ (c.loop-formula.invariant.0 os grows ready).grows _ c.requires.may.held

pub refusal-requires-clause-ready : goal.refusal-requires-clause-ready
refusal-requires-clause-ready g c =
    let (os, grows, ready) = c.requires.may.ready in
    (os, Grows-trans os c.args.heap.now.objects c.loop-formula.heap.objects grows (c.loop-formula.invariant.0 os grows ready).grows, c.loop-formula.invariant.1.ready os ready)

pub returns-then-is_some-clause-refusal : goal.returns-then-is_some-clause-refusal
returns-then-is_some-clause-refusal g c = λ os grows ready.
    let now = c.loop-formula.heap.objects in
    let pair = c.in-Pair.ensures in
    let proof = c.in-Pair-view.ensures in
    let w = c.loop-formula.invariant.0 os grows ready in
    let told =
    c.in_ok-refusal.ensures.refusal os (Grows-trans os c.args.heap.now.objects now grows w.grows) (c.loop-formula.invariant.1.ready os ready)
    ∙ ap (λ f. f os (meant now (parts_of c.args.theory.now)) (object_at now c.in-Pair.formula) (object_at now c.in-Pair-view.proof)) c.loop-formula.invariant.1.same in
    refused_here _ _ _ _ _ c.requires.may.held _ _ _ _ w _ _ _ _ pair.below.0 pair.below.1 proof.below.0 proof.below.1 pair.shows.2 proof.shows.2
    c.in_ok-refusal.refusal (sym c.is_some.ensures ∙ c.if-is_some.true) told

pub loop-formula-preserved : goal.loop-formula-preserved
loop-formula-preserved g c =
    let now = c.loop-formula.heap.objects in
    let pair = c.in-Pair.ensures in
    let proof = c.in-Pair-view.ensures in (
      λ os grows ready.
          let w = c.loop-formula.invariant.0 os grows ready in
          let told =
          c.in_ok-refusal.ensures.refusal os (Grows-trans os c.args.heap.now.objects now grows w.grows) (c.loop-formula.invariant.1.ready os ready)
          ∙ ap (λ f. f os (meant now (parts_of c.args.theory.now)) (object_at now c.in-Pair.formula) (object_at now c.in-Pair-view.proof)) c.loop-formula.invariant.1.same in
          Walks-next _ _ _ _ _ c.requires.may.held _ _ _ _ w _ _ _ _ pair.below.0 pair.below.1 proof.below.0 proof.below.1 pair.shows.2 proof.shows.2
          c.in_ok-refusal.refusal (sym c.is_some.ensures ∙ c.if-is_some.false) told _ _ c.in_ok-refusal.ensures.grows c.in_ok-refusal.ensures.marked,
      same_judge_later _ _ _ _ _ _ c.loop-formula.invariant.1 c.in_ok-refusal.ensures.same c.in_ok-refusal.ensures.limit c.in_ok-refusal.ensures.ready,
    )

pub returns : goal.returns
returns g c =
    let now = c.loop-formula.heap.objects in
    let formulas = object_at now c.loop-formula.formulas in
    let (before, grown, was) = c.requires.may.ready in
    let w = c.loop-formula.invariant.0 before grown was in
    record {
      grows = w.grows;
      marked = w.marked;
      judge = c.loop-formula.invariant.1;
      refusal = λ os grows ready. none_refused _ _ (g.J.Judge.judges c.args.judge.now os) c.args.obligations c.args.proofs now _ c.loop-formula.formulas _ (c.loop-formula.invariant.0 os grows ready) (shown_no_pair now c.view.result formulas c.view.ensures.shows c.in_default.not-Pair);
    }

pub returns-in_err-refusal-clause-grows : goal.returns-in_err-refusal-clause-grows
returns-in_err-refusal-clause-grows g c =
    let (os, grows, ready) = c.requires.may.ready in
    Grows-trans c.args.heap.now.objects c.loop-formula.heap.objects c.refusal.new.heap.objects (c.loop-formula.invariant.0 os grows ready).grows c.refusal.ensures.grows

pub returns-then-is_some-clause-grows : goal.returns-then-is_some-clause-grows
returns-then-is_some-clause-grows g c =
    let (os, grows, ready) = c.requires.may.ready in
    Grows-trans c.args.heap.now.objects c.loop-formula.heap.objects c.refusal.new.heap.objects (c.loop-formula.invariant.0 os grows ready).grows c.refusal.ensures.grows

pub refusal-requires-clause-marked : goal.refusal-requires-clause-marked
refusal-requires-clause-marked g c = let (os, grows, ready) = c.requires.may.ready in (c.loop-formula.invariant.0 os grows ready).marked

pub returns-in_err-refusal-clause-judge : goal.returns-in_err-refusal-clause-judge
returns-in_err-refusal-clause-judge g c = same_judge_later _ _ _ _ _ _ c.loop-formula.invariant.1 c.refusal.ensures.same c.refusal.ensures.limit c.refusal.ensures.ready

pub returns-then-is_some-clause-judge : goal.returns-then-is_some-clause-judge
returns-then-is_some-clause-judge g c = same_judge_later _ _ _ _ _ _ c.loop-formula.invariant.1 c.refusal.ensures.same c.refusal.ensures.limit c.refusal.ensures.ready
