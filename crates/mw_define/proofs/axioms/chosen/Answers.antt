-- The call on the witness, and then the head.
use Rattle.std.proofs.Common.{ap₂, ◌∙◌}
use Rattle.std.proofs.lemmas.Result.{IfOk-weaker}
use Rattle.mw_model.specs.Terms.Object.{Pair, symbol, list3}
use Rattle.mw_heap.proofs.Objects.{object_at-Grows, IsIn-Grows, Grows-trans}
use Rattle.mw_define.proofs.axioms.chosen.Goals as goal

pub cons-requires-2-clause-second_in : goal.cons-requires-2-clause-second_in
cons-requires-2-clause-second_in c = IsIn-Grows c.args.heap.now.objects c.cons.new.self.objects c.cons.ensures.grows c.args.free c.requires.free_in

pub returns-in_err-actuals-clause-grows : goal.returns-in_err-actuals-clause-grows
returns-in_err-actuals-clause-grows c = Grows-trans c.args.heap.now.objects c.cons.new.self.objects c.cons-2.new.self.objects c.cons.ensures.grows c.cons-2.ensures.grows

pub call_of_two-requires-clause-first_in : goal.call_of_two-requires-clause-first_in
call_of_two-requires-clause-first_in c =
    let h0 = c.args.heap.now.objects in
    let h1 = c.cons.new.self.objects in
    let h2 = c.cons-2.new.self.objects in
    IsIn-Grows h0 h2 (Grows-trans h0 h1 h2 c.cons.ensures.grows c.cons-2.ensures.grows) c.args.formals c.requires.formals_in

pub call_of_two-requires-clause-second_in : goal.call_of_two-requires-clause-second_in
call_of_two-requires-clause-second_in c =
    let h0 = c.args.heap.now.objects in
    let h1 = c.cons.new.self.objects in
    let h2 = c.cons-2.new.self.objects in
    IsIn-Grows h0 h2 (Grows-trans h0 h1 h2 c.cons.ensures.grows c.cons-2.ensures.grows) c.args.body c.requires.body_in

pub returns-in_err-head-clause-grows : goal.returns-in_err-head-clause-grows
returns-in_err-head-clause-grows c =
    let h0 = c.args.heap.now.objects in
    let h1 = c.cons.new.self.objects in
    let h2 = c.cons-2.new.self.objects in
    Grows-trans h0 h2 c.call_of_two.new.heap.objects (Grows-trans h0 h1 h2 c.cons.ensures.grows c.cons-2.ensures.grows) c.call_of_two.ensures.grows

pub cons-requires-3-clause-second_in : goal.cons-requires-3-clause-second_in
cons-requires-3-clause-second_in c = IsIn-Grows c.cons-2.new.self.objects c.call_of_two.new.heap.objects c.call_of_two.ensures.grows c.in_ok-actuals.actuals c.in_ok-actuals.ensures.made.0

pub returns-clause-grows : goal.returns-clause-grows
returns-clause-grows c =
    let h0 = c.args.heap.now.objects in
    let h1 = c.cons.new.self.objects in
    let h2 = c.cons-2.new.self.objects in
    let h3 = c.call_of_two.new.heap.objects in
    Grows-trans h0 h2 c.cons-3.new.self.objects (Grows-trans h0 h1 h2 c.cons.ensures.grows c.cons-2.ensures.grows) (Grows-trans h2 h3 c.cons-3.new.self.objects c.call_of_two.ensures.grows c.cons-3.ensures.grows)

pub returns-clause-made : goal.returns-clause-made
returns-clause-made c =
    let h0 = c.args.heap.now.objects in
    let h1 = c.cons.new.self.objects in
    let h2 = c.cons-2.new.self.objects in
    let h3 = c.call_of_two.new.heap.objects in
    let g = Grows-trans h0 h1 h2 c.cons.ensures.grows c.cons-2.ensures.grows in
    let head = c.in_ok-head.ensures.made.1 ∙ ap₂ (list3 (symbol "LAMBDA")) (object_at-Grows h0 h2 g c.args.formals c.requires.formals_in) (object_at-Grows h0 h2 g c.args.body c.requires.body_in) in
    let actuals =
    object_at-Grows h2 h3 c.call_of_two.ensures.grows c.in_ok-actuals.actuals c.in_ok-actuals.ensures.made.0
    ∙ (c.in_ok-actuals.ensures.made.1 ∙ ap₂ Pair c.in_ok-call.ensures.made.1 (object_at-Grows h0 h1 c.cons.ensures.grows c.args.free c.requires.free_in)) in
    IfOk-weaker c.cons-3.result _ _ (λ r made. (made.0, made.1 ∙ ap₂ Pair head actuals)) c.cons-3.ensures.made
