-- One more part that expands, and the first that does not.
use Rattle.std.proofs.Common.{◌++◌, is_some, sym, ap, ◌∙◌}
use Rattle.mw_model.specs.Events.Expansion.{expand}
use Rattle.mw_heap.proofs.Objects.{Grows-trans, IsIn-Grows, object_at-Grows}
use Rattle.std.proofs.Common.{length}
use Rattle.mw_explain.proofs.LookingOn.{before-at, part_passes, part_fails}
use Rattle.mw_explain.proofs.raw_part.first_bad.Goals as goal

pub expands-requires : goal.expands-requires
expands-requires c =
    let os = c.args.heap.now.objects in
    IsIn-Grows os c.loop-part.heap.objects c.loop-part.invariant.grows c.part-item.result (before-at (length os) c.args.parts.now c.loop-part.part-index c.part-item.result c.requires c.loop-part-test.true c.part-item.is)

pub returns-then-not-branch-clause-bad : goal.returns-then-not-branch-clause-bad
returns-then-not-branch-clause-bad c =
    let os = c.args.heap.now.objects in
    let A = c.args.newer.now ++ c.args.older.now in
    let p = c.part-item.result in
    let within = before-at (length os) c.args.parts.now c.loop-part.part-index p c.requires c.loop-part-test.true c.part-item.is in
    part_fails A os c.args.parts.now c.loop-part.part-index p c.loop-part-test.true c.part-item.is c.loop-part.invariant.same
    (ap (λ x. is_some (expand A x)) (sym (object_at-Grows os c.loop-part.heap.objects c.loop-part.invariant.grows p within)) ∙ (sym c.in_ok-expands.ensures.expands ∙ c.if-not-branch.true))

pub loop-part-preserved : goal.loop-part-preserved
loop-part-preserved c =
    let os = c.args.heap.now.objects in
    let A = c.args.newer.now ++ c.args.older.now in
    let p = c.part-item.result in
    let within = before-at (length os) c.args.parts.now c.loop-part.part-index p c.requires c.loop-part-test.true c.part-item.is in
    record {
      grows = Grows-trans os c.loop-part.heap.objects c.expands.new.heap.objects c.loop-part.invariant.grows c.in_ok-expands.ensures.grows;
      same = part_passes A os c.args.parts.now c.loop-part.part-index p c.loop-part-test.true c.part-item.is c.loop-part.invariant.same
          (ap (λ x. is_some (expand A x)) (sym (object_at-Grows os c.loop-part.heap.objects c.loop-part.invariant.grows p within)) ∙ (sym c.in_ok-expands.ensures.expands ∙ c.if-not-branch.false));
    }
