-- One draft after another.
use Rattle.std.proofs.Common.{◌++◌, length, eqb, sym, ap, ◌∙◌, subst}
use Rattle.std.proofs.lemmas.Result.{IfOk-weaker}
use Rattle.mw_heap.specs.Variants.{refusal_of}
use Rattle.mw_heap.proofs.Objects.{Grows-trans}
use Rattle.mw_define.specs.Blocks.{draft_at}
use Rattle.mw_define.proofs.NewNames.{draft-in}
use Rattle.mw_define.proofs.Expanding.{draft-Grows}
use Rattle.mw_commands.specs.Commands.Explanation.{draft_shown}
use Rattle.mw_bad_steps.specs.Shown.{Shows}
use Rattle.mw_explain.proofs.ShownParts.{shown-empty, shows-none}
use Rattle.mw_explain.proofs.DraftsShown.{draft_at-Grows, shown-next, shown-here, shown-end, not-empty}
use Rattle.mw_explain.proofs.definition.first_shown.Goals as goal

pub draft_shown-requires : goal.draft_shown-requires
draft_shown-requires c =
    draft-Grows c.args.heap.now.objects c.loop-index.heap.objects c.loop-index.invariant.grows c.index-drafts-index.result (draft-in c.args.heap.now.objects c.args.drafts.now c.loop-index.index c.index-drafts-index.result c.requires c.loop-index-test.true c.index-drafts-index.is)

pub loop-index-preserved : goal.loop-index-preserved
loop-index-preserved c =
    let os = c.args.heap.now.objects in
    let cur = c.loop-index.heap.objects in
    let mid = c.draft_shown.new.heap.objects in
    let show = draft_shown (refusal_of c.args.reason) c.args.older.now (c.args.newer.now ++ c.args.older.now) in
    let d = c.index-drafts-index.result in
    let within = draft-in os c.args.drafts.now c.loop-index.index d c.requires c.loop-index-test.true c.index-drafts-index.is in
    let none = shown-empty mid c.in_ok-shown.shown.items (show (draft_at cur d)) (ap (λ l. eqb (length l) 0) (sym c.as_slice.ensures.value) ∙ (sym c.is_empty.ensures ∙ c.if-not-is_empty.false)) c.in_ok-shown.ensures.shown in
    record {
      grows = Grows-trans os cur mid c.loop-index.invariant.grows c.in_ok-shown.ensures.grows;
      left = shown-next show os c.args.drafts.now c.loop-index.index d c.loop-index-test.true c.index-drafts-index.is c.loop-index.invariant.left (ap show (sym (draft_at-Grows os cur c.loop-index.invariant.grows d within)) ∙ none);
    }

pub returns-then-not-is_empty-clause-shown : goal.returns-then-not-is_empty-clause-shown
returns-then-not-is_empty-clause-shown c =
    let os = c.args.heap.now.objects in
    let cur = c.loop-index.heap.objects in
    let mid = c.draft_shown.new.heap.objects in
    let new = c.put_number.new.heap.objects in
    let show = draft_shown (refusal_of c.args.reason) c.args.older.now (c.args.newer.now ++ c.args.older.now) in
    let d = c.index-drafts-index.result in
    let within = draft-in os c.args.drafts.now c.loop-index.index d c.requires c.loop-index-test.true c.index-drafts-index.is in
    let some = not-empty mid c.in_ok-shown.shown.items (show (draft_at cur d)) (ap (λ l. eqb (length l) 0) (sym c.as_slice.ensures.value) ∙ (sym c.is_empty.ensures ∙ c.if-not-is_empty.true)) c.in_ok-shown.ensures.shown in
    let is = shown-here show os c.args.drafts.now c.loop-index.index d c.loop-index-test.true c.index-drafts-index.is c.loop-index.invariant.left (show (draft_at cur d)) (ap show (sym (draft_at-Grows os cur c.loop-index.invariant.grows d within))) some in
    IfOk-weaker c.put_number.result _ _ (λ v h. subst (Shows new v.items) is (h (show (draft_at cur d)) c.in_ok-shown.ensures.shown)) c.put_number.ensures.shown

pub returns-clause-shown : goal.returns-clause-shown
returns-clause-shown c =
    let os = c.args.heap.now.objects in
    let cur = c.loop-index.heap.objects in
    let show = draft_shown (refusal_of c.args.reason) c.args.older.now (c.args.newer.now ++ c.args.older.now) in
    subst (Shows cur c.new.result.items) (sym (shown-end show os c.args.drafts.now c.loop-index.index c.loop-index-test.false c.loop-index.invariant.left)) (shows-none cur c.new.result.items c.new.ensures.items)
