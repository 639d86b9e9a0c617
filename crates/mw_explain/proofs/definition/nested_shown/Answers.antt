-- Nothing is nested, or something.
use Rattle.std.proofs.Common.{map, sym, subst}
use Rattle.std.proofs.lemmas.Result.{IfOk-weaker}
use Rattle.mw_define.specs.Blocks.{draft_at}
use Rattle.mw_define.specs.NestedCall.{IsNestedFrom}
use Rattle.mw_bad_steps.specs.Shown.{Shows}
use Rattle.mw_explain.proofs.ShownParts.{shows-none}
use Rattle.mw_explain.proofs.NestedShown.{nothing-nested, something-nested, call-in}
use Rattle.mw_explain.proofs.definition.nested_shown.Goals as goal

pub returns-in_default-clause-shown : goal.returns-in_default-clause-shown
returns-in_default-clause-shown c =
    let ds = map (draft_at c.args.heap.now.objects) c.args.drafts.now in
    let mid = c.first_nested_call.new.heap.objects in
    subst (Shows mid c.new.result.items) (sym (nothing-nested c.args.arity.now ds c.requires.named c.requires.formals mid (subst (IsNestedFrom c.args.arity.now ds mid) c.in_default.is c.in_ok-nested.ensures.nested))) (shows-none mid c.new.result.items c.new.ensures.items)

pub call_shown-requires-clause-name : goal.call_shown-requires-clause-name
call_shown-requires-clause-name c =
    let ds = map (draft_at c.args.heap.now.objects) c.args.drafts.now in
    let mid = c.first_nested_call.new.heap.objects in
    (call-in c.args.arity.now ds c.requires.named c.requires.formals mid c.in-Some.nested (subst (IsNestedFrom c.args.arity.now ds mid) c.in-Some.is c.in_ok-nested.ensures.nested)).0

pub call_shown-requires-clause-actuals : goal.call_shown-requires-clause-actuals
call_shown-requires-clause-actuals c =
    let ds = map (draft_at c.args.heap.now.objects) c.args.drafts.now in
    let mid = c.first_nested_call.new.heap.objects in
    (call-in c.args.arity.now ds c.requires.named c.requires.formals mid c.in-Some.nested (subst (IsNestedFrom c.args.arity.now ds mid) c.in-Some.is c.in_ok-nested.ensures.nested)).1

pub returns-clause-shown : goal.returns-clause-shown
returns-clause-shown c =
    let ds = map (draft_at c.args.heap.now.objects) c.args.drafts.now in
    let mid = c.first_nested_call.new.heap.objects in
    let new = c.call_shown.new.heap.objects in
    IfOk-weaker c.call_shown.result _ _
    (λ v h. subst (Shows new v.items) (something-nested c.args.arity.now ds c.requires.named c.requires.formals mid c.in-Some.nested (subst (IsNestedFrom c.args.arity.now ds mid) c.in-Some.is c.in_ok-nested.ensures.nested)) h)
    c.call_shown.ensures.shown
