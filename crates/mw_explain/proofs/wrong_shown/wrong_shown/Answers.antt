-- One condition after another.
use Rattle.std.proofs.Common.{◌<◌, ◌∷◌, length, option_map, arith, sym, ap, ◌∙◌, subst}
use Rattle.std.specs.Prelude.{option_to_list}
use Rattle.std.proofs.lemmas.Result.{IfOk-weaker}
use Rattle.mw_model.specs.Terms.Object.{symbol, fourth_of}
use Rattle.mw_model.specs.Values.Definition.{arity_table}
use Rattle.mw_heap.specs.Objects.{object_at}
use Rattle.mw_heap.specs.Lists.{list_object}
use Rattle.mw_heap.specs.Variants.{profile_of}
use Rattle.mw_heap.proofs.Objects.{object_at-Grows}
use Rattle.mw_commands.specs.Commands.ExplanationSteps.{step_shown, mended}
use Rattle.mw_term.specs.Marking.{AreMarks}
use Rattle.mw_explain.specs.Condition.{IsWrong, IsPartIn}
use Rattle.mw_explain.proofs.ShownSteps.{shows_same}
use Rattle.mw_explain.proofs.WrongSteps.{mended_listed, mends_same}
use Rattle.mw_explain.proofs.wrong_shown.wrong_shown.Goals as goal

pub formula_shown-requires-clause-part : goal.formula_shown-requires-clause-part
formula_shown-requires-clause-part c = subst (IsPartIn c.args.heap.now.objects) c.in-Formula.is c.wrong_step.ensures.within

pub returns-in-Shape-clause-shown : goal.returns-in-Shape-clause-shown
returns-in-Shape-clause-shown c = IfOk-weaker c.shape_shown.result _ _ (λ v s t ax th a pr p. let os = c.args.heap.now.objects in s t (subst (IsWrong t os (object_at os c.args.step)) c.in-Shape.is (c.wrong_step.ensures.wrong t a p))) c.shape_shown.ensures.shown

pub returns-in-Method-clause-shown : goal.returns-in-Method-clause-shown
returns-in-Method-clause-shown c = IfOk-weaker c.condition_shown.result _ _ (λ v s t ax th a pr p. let os = c.args.heap.now.objects in shows_same c.condition_shown.new.heap.objects v.items _ _ (subst (IsWrong t os (object_at os c.args.step)) c.in-Method.is (c.wrong_step.ensures.wrong t a p)) s) c.condition_shown.ensures.shown

pub returns-in-Formula-clause-shown : goal.returns-in-Formula-clause-shown
returns-in-Formula-clause-shown c = IfOk-weaker c.formula_shown.result _ _ (λ v s t ax th a pr p. let os = c.args.heap.now.objects in s t a (subst (IsWrong t os (object_at os c.args.step)) c.in-Formula.is (c.wrong_step.ensures.wrong t a p))) c.formula_shown.ensures.shown

pub returns-in-Subproofs-clause-shown : goal.returns-in-Subproofs-clause-shown
returns-in-Subproofs-clause-shown c = IfOk-weaker c.condition_shown-in-Subproofs.result _ _ (λ v s t ax th a pr p. let os = c.args.heap.now.objects in shows_same c.condition_shown-in-Subproofs.new.heap.objects v.items _ _ (subst (IsWrong t os (object_at os c.args.step)) c.in-Subproofs.is (c.wrong_step.ensures.wrong t a p)) s) c.condition_shown-in-Subproofs.ensures.shown

pub returns-in-Extras-clause-shown : goal.returns-in-Extras-clause-shown
returns-in-Extras-clause-shown c = IfOk-weaker c.condition_shown-in-Extras.result _ _ (λ v s t ax th a pr p. let os = c.args.heap.now.objects in shows_same c.condition_shown-in-Extras.new.heap.objects v.items _ _ (subst (IsWrong t os (object_at os c.args.step)) c.in-Extras.is (c.wrong_step.ensures.wrong t a p)) s) c.condition_shown-in-Extras.ensures.shown

pub returns-in-Premises-clause-shown : goal.returns-in-Premises-clause-shown
returns-in-Premises-clause-shown c = IfOk-weaker c.count_shown.result _ _ (λ v s t ax th a pr p. let os = c.args.heap.now.objects in s t (subst (IsWrong t os (object_at os c.args.step)) c.in-Premises.is (c.wrong_step.ensures.wrong t a p))) c.count_shown.ensures.shown

pub returns-in-Induction-clause-shown : goal.returns-in-Induction-clause-shown
returns-in-Induction-clause-shown c = IfOk-weaker c.induction_shown.result _ _ (λ v s t ax th a pr p. let os = c.args.heap.now.objects in s t (subst (λ A. AreMarks A os c.args.marks.now) (sym a) c.requires.marked) (subst (IsWrong t os (object_at os c.args.step)) c.in-Induction.is (c.wrong_step.ensures.wrong t a p))) c.induction_shown.ensures.shown

pub returns-in_ok-conclusion-in-Rule-clause-shown : goal.returns-in_ok-conclusion-in-Rule-clause-shown
returns-in_ok-conclusion-in-Rule-clause-shown c = IfOk-weaker c.condition_shown-in-Rule.result _ _ (λ v s t ax th a pr p.
    let os = c.args.heap.now.objects in
    let e = subst (IsWrong t os (object_at os c.args.step)) c.in-Rule.is (c.wrong_step.ensures.wrong t a p) in
    let mid = c.mended.new.heap.objects in
    let x = object_at os c.args.step in
    let marked = c.requires.marked.within in
    let in_os : c.args.step < length os = omega (arith, c.requires.within, marked) in
    let here = object_at-Grows os mid c.mended.ensures.grows c.args.step in_os in
    let o = c.in_ok-conclusion-in-Rule.conclusion in
    let is = mends_same mid e.0 e.1 e.2 x o t.axioms t.theorems (arity_table t.definitions) t.definitions.profile (list_object os c.args.basis.now.axioms.now) (list_object os c.args.basis.now.theorems.now) c.args.arity.now (profile_of c.args.basis.now.profile) ax th a pr
    (λ f j k. c.in_ok-conclusion-in-Rule.ensures.mended e.0 e.1 e.2 e.8 e.3 f j k) e.4 e.5 e.7 in
    let listed = mended_listed mid (mended t.axioms t.theorems (arity_table t.definitions) t.definitions.profile e.0 e.1 e.2 (fourth_of x)) o is in
    shows_same c.condition_shown-in-Rule.new.heap.objects v.items _ _ (e.6 ∙ (ap (λ l. step_shown x ∷ symbol "RULE" ∷ l) listed ∙ sym (ap (λ y. step_shown y ∷ symbol "RULE" ∷ option_to_list (option_map (object_at mid) o)) here))) s) c.condition_shown-in-Rule.ensures.shown
