-- Under the arities of the functions.
use Rattle.std.proofs.Common.{map, subst, IfOk}
use Rattle.mw_heap.specs.Variants.{refusal_of}
use Rattle.mw_define.specs.Blocks.{draft_at}
use Rattle.mw_commands.specs.Commands.Explanation.{draft_shown, first_shown}
use Rattle.mw_bad_steps.specs.Shown.{Shows}
use Rattle.mw_explain.proofs.definition.terms_shown.Goals as goal

pub returns-clause-shown : goal.returns-clause-shown
returns-clause-shown c =
    let ds = map (draft_at c.args.heap.now.objects) c.args.drafts.now in
    let new = c.first_shown.new.heap.objects in
    subst (λ B. IfOk c.first_shown.result (λ v. Shows new v.items (first_shown (draft_shown (refusal_of c.args.reason) c.args.arity.now B) 1 ds))) c.in_ok-newer.ensures c.first_shown.ensures.shown
