-- The bad part after the word, or nothing.
use Rattle.std.proofs.Common.{◌++◌, Some, ap, ◌∙◌, subst}
use Rattle.std.proofs.lemmas.Result.{IfOk-weaker}
use Rattle.mw_model.specs.Terms.Object.{Symbol, name_of_bytes}
use Rattle.mw_heap.specs.Objects.{object_at}
use Rattle.mw_heap.proofs.Objects.{object_at-Grows}
use Rattle.mw_commands.specs.Commands.ExplanationTerms.{part_shown}
use Rattle.mw_commands.specs.Commands.Explanation.{raw_shown}
use Rattle.mw_bad_steps.specs.Shown.{Shows}
use Rattle.mw_explain.proofs.ShownParts.{shows-none}
use Rattle.mw_explain.proofs.one_draft.term_shown.Goals as goal

pub returns-in_ok-shown-in-Some-clause-shown : goal.returns-in_ok-shown-in-Some-clause-shown
returns-in_ok-shown-in-Some-clause-shown c =
    let os = c.args.heap.now.objects in
    let mid = c.bad_raw.new.heap.objects in
    let new = c.put_symbol.new.heap.objects in
    let A = c.args.newer.now ++ c.args.older.now in
    let word = Symbol (name_of_bytes c.args.word.now) in
    let part = c.in-Some.part in
    let is = ap Some (object_at-Grows os mid c.in_ok-part.ensures.grows part (rw c.in-Some.is at c.in_ok-part.ensures.within)) ∙ (rw c.in-Some.is at c.in_ok-part.ensures.bad) in
    IfOk-weaker c.put_symbol.result _ _
    (λ v h. subst (λ o. Shows new v.items (raw_shown word A o)) is (h (part_shown A (Some (object_at mid part))) c.in_ok-shown-in-Some.ensures.shown))
    c.put_symbol.ensures.shown

pub returns-in-None-clause-shown : goal.returns-in-None-clause-shown
returns-in-None-clause-shown c =
    let new = c.bad_raw.new.heap.objects in
    let A = c.args.newer.now ++ c.args.older.now in
    let word = Symbol (name_of_bytes c.args.word.now) in
    subst (λ o. Shows new c.new.result.items (raw_shown word A o)) (rw c.in-None.is at c.in_ok-part.ensures.bad) (shows-none new c.new.result.items c.new.ensures.items)
