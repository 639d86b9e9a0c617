-- One function after another.
use Rattle.mw_heap.proofs.Objects.{IsIn-Grows, Grows-trans}
use Rattle.mw_define.proofs.Expanding.{expanded-at}
use Rattle.mw_define.proofs.BlockAxioms.{axioms-start, axioms-next, axioms-end}
use Rattle.mw_define.proofs.listing.axioms_of.Goals as goal

pub loop-function-init : goal.loop-function-init
loop-function-init c = axioms-start c.args.heap.now.objects c.args.block.now c.new-axioms.result.items c.new-axioms.ensures.items

pub function_axiom-requires-clause-name_in : goal.function_axiom-requires-clause-name_in
function_axiom-requires-clause-name_in c = IsIn-Grows c.args.heap.now.objects c.loop-function.heap.objects c.loop-function.invariant.grows c.function-item.result.name (expanded-at c.args.heap.now.objects c.args.block.now c.loop-function.function-index c.function-item.result c.requires c.loop-function-test.true c.function-item.is).within.0

pub function_axiom-requires-clause-formals_in : goal.function_axiom-requires-clause-formals_in
function_axiom-requires-clause-formals_in c = IsIn-Grows c.args.heap.now.objects c.loop-function.heap.objects c.loop-function.invariant.grows c.function-item.result.formals (expanded-at c.args.heap.now.objects c.args.block.now c.loop-function.function-index c.function-item.result c.requires c.loop-function-test.true c.function-item.is).within.1

pub function_axiom-requires-clause-body_in : goal.function_axiom-requires-clause-body_in
function_axiom-requires-clause-body_in c = IsIn-Grows c.args.heap.now.objects c.loop-function.heap.objects c.loop-function.invariant.grows c.function-item.result.body (expanded-at c.args.heap.now.objects c.args.block.now c.loop-function.function-index c.function-item.result c.requires c.loop-function-test.true c.function-item.is).within.2

pub loop-function-preserved : goal.loop-function-preserved
loop-function-preserved c =
    axioms-next c.args.heap.now.objects c.loop-function.heap.objects c.function_axiom.new.heap.objects c.args.block.now c.loop-function.function-index c.function-item.result c.requires c.loop-function-test.true c.function-item.is
    c.loop-function.axioms.items c.push.new.self.items c.in_ok-axiom.axiom c.loop-function.invariant c.in_ok-axiom.ensures.grows c.in_ok-axiom.ensures.made.0 c.in_ok-axiom.ensures.made.1 c.in_ok-push.ensures.items

pub returns-clause-grows : goal.returns-clause-grows
returns-clause-grows c = c.loop-function.invariant.grows

pub returns-clause-made : goal.returns-clause-made
returns-clause-made c = axioms-end c.args.heap.now.objects c.loop-function.heap.objects c.args.block.now c.loop-function.function-index c.loop-function.axioms.items c.loop-function-test.false c.loop-function.invariant

pub returns-in_err-push-clause-grows : goal.returns-in_err-push-clause-grows
returns-in_err-push-clause-grows c = Grows-trans c.args.heap.now.objects c.loop-function.heap.objects c.function_axiom.new.heap.objects c.loop-function.invariant.grows c.in_ok-axiom.ensures.grows

pub returns-in_err-axiom-clause-grows : goal.returns-in_err-axiom-clause-grows
returns-in_err-axiom-clause-grows c = Grows-trans _ _ _ c.loop-function.invariant.grows c.in_err-axiom.ensures.grows
