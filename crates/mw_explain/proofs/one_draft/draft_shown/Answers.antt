-- By the reason.
use Rattle.std.proofs.Common.{◌++◌, sym, subst}
use Rattle.std.proofs.lemmas.Result.{IfOk-weaker}
use Rattle.std.proofs.Common.{IfOk}
use Rattle.mw_heap.specs.Variants.{refusal_of}
use Rattle.mw_define.specs.Blocks.{draft_at}
use Rattle.mw_commands.specs.Commands.Explanation.{draft_shown}
use Rattle.mw_bad_steps.specs.Shown.{Shows}
use Rattle.mw_explain.proofs.DraftsShown.{other-reasons}
use Rattle.mw_explain.proofs.one_draft.draft_shown.Goals as goal

pub returns-in-Formals-clause-shown : goal.returns-in-Formals-clause-shown
returns-in-Formals-clause-shown c =
    let new = c.formals_shown.new.heap.objects in
    subst (λ r. IfOk c.formals_shown.result (λ v. Shows new v.items (draft_shown (refusal_of r) c.args.older.now (c.args.newer.now ++ c.args.older.now) (draft_at c.args.heap.now.objects c.args.draft)))) (sym c.in-Formals.is) c.formals_shown.ensures.shown

pub returns-in-Term-clause-shown : goal.returns-in-Term-clause-shown
returns-in-Term-clause-shown c =
    let new = c.terms_shown.new.heap.objects in
    subst (λ r. IfOk c.terms_shown.result (λ v. Shows new v.items (draft_shown (refusal_of r) c.args.older.now (c.args.newer.now ++ c.args.older.now) (draft_at c.args.heap.now.objects c.args.draft)))) (sym c.in-Term.is) c.terms_shown.ensures.shown

pub returns-in_default-clause-shown : goal.returns-in_default-clause-shown
returns-in_default-clause-shown c =
    let new = c.variables_shown.new.heap.objects in
    IfOk-weaker c.variables_shown.result _ _
    (λ v h. subst (Shows new v.items) (sym (other-reasons c.args.reason c.args.older.now (c.args.newer.now ++ c.args.older.now) (draft_at c.args.heap.now.objects c.args.draft) c.in_default.not-Formals c.in_default.not-Term)) h)
    c.variables_shown.ensures.shown
