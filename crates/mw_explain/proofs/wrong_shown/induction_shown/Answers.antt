-- The members, the conclusion, and the premises where the extras are those of an induction.
use Rattle.std.proofs.Common.{◌≡◌, ◌<◌, ◌∷◌, [], false, length, is_some, IfSome, sym, ap, ◌∙◌, subst, arith}
use Rattle.std.proofs.lemmas.Result.{IfOk-weaker}
use Rattle.mw_model.specs.Terms.Object.{symbol, second_of}
use Rattle.mw_model.specs.Values.Definition.{arity_table}
use Rattle.mw_model.specs.Laws.Rules.{is_formula_object}
use Rattle.mw_heap.specs.Objects.{object_at, IsIn}
use Rattle.mw_heap.proofs.Objects.{object_at-Grows}
use Rattle.mw_commands.specs.Commands.ExplanationSteps.{step_shown}
use Rattle.mw_explain.proofs.ShownSteps.{shows_same}
use Rattle.mw_explain.proofs.WrongSteps.{premises_wrong, extras_wrong}
use Rattle.mw_explain.proofs.wrong_shown.induction_shown.Goals as goal

pub premises_of-requires-clause-formula : goal.premises_of-requires-clause-formula
premises_of-requires-clause-formula c =
    let A = c.requires.marks.0 in
    (A, sym (c.is_formula.ensures A c.args.heap.now.objects c.requires.marks.1) ∙ c.if-not-is_formula.false)

pub condition_shown-requires-clause-wanted : goal.condition_shown-requires-clause-wanted
condition_shown-requires-clause-wanted c = subst (λ o. IfSome o (IsIn c.premises_of.new.heap.objects)) c.in-Some-2.is c.in_ok-premises.ensures.within

pub returns-in_default-clause-shown : goal.returns-in_default-clause-shown
returns-in_default-clause-shown c = λ t k e. absurd (cc (c.in_default.ensures.shape, e.0))

pub returns-then-not-is_formula-clause-shown : goal.returns-then-not-is_formula-clause-shown
returns-then-not-is_formula-clause-shown c = λ t k e.
    let os = c.args.heap.now.objects in
    let A = arity_table t.definitions in
    let f : is_formula_object A (second_of (object_at os c.args.step)) ≡ false = ap (is_formula_object A) (sym c.in-Some.ensures.members.conclusion_is) ∙ (sym (c.is_formula.ensures A os k) ∙ c.if-not-is_formula.true) in
    absurd (cc (f, ap is_some e.2))

pub returns-in-Some-2-clause-shown : goal.returns-in-Some-2-clause-shown
returns-in-Some-2-clause-shown c = IfOk-weaker c.condition_shown.result _ _ (λ v s t k e.
    let os = c.args.heap.now.objects in
    let A = arity_table t.definitions in
    let mid = c.premises_of.new.heap.objects in
    let am = c.in-Some.ensures.members in
    let marked = k.within in
    let in_os : c.args.step < length os = omega (arith, c.requires.within, marked) in
    let here = object_at-Grows os mid c.premises_of.ensures.grows c.args.step in_os in
    let found = c.in_ok-premises.ensures.premises A k in
    let wanted = premises_wrong A os mid c.args.step c.in-Some.members am e.1 e.2 _ found c.in-Some-2.premises c.in-Some-2.is in
    shows_same c.condition_shown.new.heap.objects v.items _ _ (e.3 ∙ (ap (λ l. step_shown (object_at os c.args.step) ∷ l) wanted ∙ sym (ap (λ y. step_shown y ∷ symbol "PREMISES" ∷ object_at mid c.in-Some-2.premises ∷ []) here))) s) c.condition_shown.ensures.shown

pub returns-in-None-clause-shown : goal.returns-in-None-clause-shown
returns-in-None-clause-shown c = IfOk-weaker c.condition_shown-in-None.result _ _ (λ v s t k e.
    let os = c.args.heap.now.objects in
    let A = arity_table t.definitions in
    let mid = c.premises_of.new.heap.objects in
    let am = c.in-Some.ensures.members in
    let marked = k.within in
    let in_os : c.args.step < length os = omega (arith, c.requires.within, marked) in
    let here = object_at-Grows os mid c.premises_of.ensures.grows c.args.step in_os in
    let found = c.in_ok-premises.ensures.premises A k in
    let wanted = extras_wrong A os mid c.args.step c.in-Some.members am e.1 e.2 _ found c.in-None.is in
    shows_same c.condition_shown-in-None.new.heap.objects v.items _ _ (e.3 ∙ (ap (λ l. step_shown (object_at os c.args.step) ∷ l) wanted ∙ sym (ap (λ y. step_shown y ∷ symbol "EXTRAS" ∷ []) here))) s) c.condition_shown-in-None.ensures.shown
