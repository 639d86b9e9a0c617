-- The obligation of one call.
use Rattle.std.proofs.Common.{List, ◌∷◌, [], sym, ◌∙◌, subst}
use Rattle.mw_model.specs.Terms.Object.{Object}
use Rattle.mw_heap.specs.Objects.{object_at}
use Rattle.mw_define.specs.Blocks.{functions_at}
use Rattle.mw_define.specs.Collecting.{found_calls}
use Rattle.mw_define.specs.Knowing.{AreKnown}
use Rattle.mw_define.specs.Owed.{Adds, owed_at}
use Rattle.mw_define.proofs.OwedSoFar.{adds-later, adds-past}
use Rattle.mw_define.proofs.OwedCalls.{the_formula, one-formula, formula-is, formula-read}
use Rattle.mw_define.proofs.owing.owe_call.Goals as goal

pub returns-clause-owed : goal.returns-clause-owed
returns-clause-owed c =
    let os = c.args.heap.now.objects in
    let new = c.obligation.new.heap.objects in
    let es = c.args.block.now in
    let rs = c.args.known.now.names.keys in
    let function = c.args.function.now in
    let called = c.function_named-called.result in
    let f = c.args.call.now in
    let b = c.requires.block in
    let n = c.requires.named in
    let k = c.function_named-called.ensures in
    let h = c.requires.call.0 in
    let t = c.requires.call.1 in
    let F = the_formula os es rs b function called f n k h t in
    let Fs = owed_at os es function (found_calls (functions_at os es) os (f ∷ [])) in
    subst (λ (h : List Object). Adds os h c.args.owed.now c.add_formula.new.owed Fs) (sym c.in_ok-take_searches_since.ensures)
    (subst (Adds os new c.args.owed.now c.add_formula.new.owed) (sym (one-formula os es rs b function called f n k h t))
    (adds-later os new new c.args.owed.now c.add_formula.new.owed (F ∷ []) c.in_ok-formula.ensures.grows
    (c.in_ok-add_formula.ensures F (formula-is os es rs b function called f n k h t (object_at new c.in_ok-formula.formula) c.in_ok-formula.ensures.made.1) (formula-read os es rs b function called f n k h t))))

pub returns-clause-known : goal.returns-clause-known
returns-clause-known c = subst (λ (h : List Object). AreKnown h c.args.known.now.names.keys c.obligation.new.known) (sym c.in_ok-take_searches_since.ensures) c.in_ok-formula.ensures.known

pub returns-then-are_too_many-clause-owed : goal.returns-then-are_too_many-clause-owed
returns-then-are_too_many-clause-owed c =
    let os = c.args.heap.now.objects in
    let es = c.args.block.now in
    adds-past os c.args.owed.now (owed_at os es c.args.function.now (found_calls (functions_at os es) os (c.args.call.now ∷ []))) (sym c.are_too_many.ensures ∙ c.if-are_too_many.true)
