-- The formals, the actuals, and the call.
use Rattle.std.proofs.Common.{ap₂, ◌∙◌}
use Rattle.std.proofs.lemmas.Result.{IfOk-weaker}
use Rattle.mw_model.specs.Terms.Object.{Pair, symbol, list3}
use Rattle.mw_heap.proofs.Objects.{Grows-trans, object_at-Grows, IsIn-Grows}
use Rattle.mw_translate.specs.Lets.{append_object}
use Rattle.mw_translate.proofs.lets.joined_call.Goals as goal

pub append-requires-2-clause-front_in : goal.append-requires-2-clause-front_in
append-requires-2-clause-front_in c = IsIn-Grows _ _ c.append.ensures.grows _ c.requires.values_in

pub append-requires-2-clause-back_in : goal.append-requires-2-clause-back_in
append-requires-2-clause-back_in c = IsIn-Grows _ _ c.append.ensures.grows _ c.requires.others_in

pub returns-in_err-actuals-clause-grows : goal.returns-in_err-actuals-clause-grows
returns-in_err-actuals-clause-grows c = Grows-trans _ _ _ c.append.ensures.grows c.append-2.ensures.grows

pub call_of_two-requires-clause-first_in : goal.call_of_two-requires-clause-first_in
call_of_two-requires-clause-first_in c = IsIn-Grows _ _ c.append-2.ensures.grows _ c.in_ok-formals.ensures.made.0

pub call_of_two-requires-clause-second_in : goal.call_of_two-requires-clause-second_in
call_of_two-requires-clause-second_in c = IsIn-Grows _ _ c.append-2.ensures.grows _ (IsIn-Grows _ _ c.append.ensures.grows _ c.requires.body_in)

pub returns-in_err-head-clause-grows : goal.returns-in_err-head-clause-grows
returns-in_err-head-clause-grows c = Grows-trans _ _ _ (Grows-trans _ _ _ c.append.ensures.grows c.append-2.ensures.grows) c.call_of_two.ensures.grows

pub cons-requires-clause-second_in : goal.cons-requires-clause-second_in
cons-requires-clause-second_in c = IsIn-Grows _ _ c.call_of_two.ensures.grows _ c.in_ok-actuals.ensures.made.0

pub returns-clause-grows : goal.returns-clause-grows
returns-clause-grows c = Grows-trans _ _ _ (Grows-trans _ _ _ (Grows-trans _ _ _ c.append.ensures.grows c.append-2.ensures.grows) c.call_of_two.ensures.grows) c.cons.ensures.grows

pub returns-clause-made : goal.returns-clause-made
returns-clause-made c =
    let h0 = c.args.heap.now.objects in
    let h1 = c.append.new.heap.objects in
    let h2 = c.append-2.new.heap.objects in
    let h3 = c.call_of_two.new.heap.objects in
    let g1 = c.in_ok-formals.ensures.grows in
    let g2 = c.in_ok-actuals.ensures.grows in
    let g3 = c.in_ok-head.ensures.grows in
    let formals = object_at-Grows h1 h2 g2 c.in_ok-formals.formals c.in_ok-formals.ensures.made.0 ∙ c.in_ok-formals.ensures.made.1 in
    let body = object_at-Grows h1 h2 g2 c.args.body (IsIn-Grows h0 h1 g1 c.args.body c.requires.body_in) ∙ object_at-Grows h0 h1 g1 c.args.body c.requires.body_in in
    let actuals =
    object_at-Grows h2 h3 g3 c.in_ok-actuals.actuals c.in_ok-actuals.ensures.made.0
    ∙ (c.in_ok-actuals.ensures.made.1
    ∙ ap₂ append_object (object_at-Grows h0 h1 g1 c.args.values c.requires.values_in) (object_at-Grows h0 h1 g1 c.args.others c.requires.others_in)) in
    let head = c.in_ok-head.ensures.made.1 ∙ ap₂ (list3 (symbol "LAMBDA")) formals body in
    IfOk-weaker c.cons.result _ _ (λ r made. (made.0, made.1 ∙ ap₂ Pair head actuals)) c.cons.ensures.made
