-- What is shown of the body, or else of the measure.
use Rattle.std.proofs.Common.{◌≡◌, ◌++◌, [], length, eqb, sym, ap, ap₂, ◌∙◌, subst}
use Rattle.std.proofs.lemmas.Result.{IfOk-weaker}
use Rattle.mw_model.specs.Terms.Object.{symbol}
use Rattle.mw_heap.specs.Objects.{object_at}
use Rattle.mw_heap.proofs.Objects.{object_at-Grows}
use Rattle.mw_commands.specs.Commands.ExplanationTerms.{bad_raw}
use Rattle.mw_commands.specs.Commands.Explanation.{or_else_shown, raw_shown}
use Rattle.mw_bad_steps.specs.Shown.{Shows}
use Rattle.mw_explain.proofs.ShownParts.{or_else-first, shown-empty}
use Rattle.mw_explain.proofs.one_draft.terms_shown.Goals as goal

pub returns-then-not-is_empty-clause-shown : goal.returns-then-not-is_empty-clause-shown
returns-then-not-is_empty-clause-shown c =
    let B = c.args.newer.now ++ c.args.older.now in
    let A = c.args.older.now in
    let os = c.args.heap.now.objects in
    or_else-first c.term_shown.new.heap.objects c.in_ok-shown.shown.items (raw_shown (symbol "BODY") B (bad_raw B (object_at os c.args.draft.body))) (raw_shown (symbol "MEASURE") A (bad_raw A (object_at os c.args.draft.measure)))
    (ap (λ l. eqb (length l) 0) (sym c.as_slice.ensures.value) ∙ (sym c.is_empty.ensures ∙ c.if-not-is_empty.true)) c.in_ok-shown.ensures.shown

pub returns-clause-shown : goal.returns-clause-shown
returns-clause-shown c =
    let B = c.args.newer.now ++ c.args.older.now in
    let A = c.args.older.now in
    let os = c.args.heap.now.objects in
    let mid = c.term_shown.new.heap.objects in
    let new = c.term_shown-2.new.heap.objects in
    let first = raw_shown (symbol "BODY") B (bad_raw B (object_at os c.args.draft.body)) in
    let none : first ≡ [] = shown-empty mid c.in_ok-shown.shown.items first (ap (λ l. eqb (length l) 0) (sym c.as_slice.ensures.value) ∙ (sym c.is_empty.ensures ∙ c.if-not-is_empty.false)) c.in_ok-shown.ensures.shown in
    let x = object_at-Grows os mid c.in_ok-shown.ensures.grows c.args.draft.measure c.requires.3 in
    let same : raw_shown (symbol "MEASURE") (c.new-none.result ++ A) (bad_raw (c.new-none.result ++ A) (object_at mid c.args.draft.measure)) ≡ or_else_shown first (raw_shown (symbol "MEASURE") A (bad_raw A (object_at os c.args.draft.measure))) =
    ap₂ (λ N y. raw_shown (symbol "MEASURE") (N ++ A) (bad_raw (N ++ A) y)) c.new-none.ensures x
    ∙ ap (λ l. or_else_shown l (raw_shown (symbol "MEASURE") A (bad_raw A (object_at os c.args.draft.measure)))) (sym none) in
    IfOk-weaker c.term_shown-2.result _ _ (λ v h. subst (Shows new v.items) same h) c.term_shown-2.ensures.shown
