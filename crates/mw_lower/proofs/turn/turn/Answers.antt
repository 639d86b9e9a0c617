-- By its members and its rule.
use Rattle.std.proofs.Common.{IfSome, sym, ◌∙◌, subst}
use Rattle.std.specs.List.{All}
use Rattle.std.proofs.lemmas.Result.{IfOk-weaker}
use Rattle.mw_model.specs.Proofs.Proof.{ProveEach}
use Rattle.mw_heap.specs.Objects.{object_at, IsIn}
use Rattle.mw_heap.specs.Lists.{list_object}
use Rattle.mw_proof.specs.Judging.{basis_over}
use Rattle.mw_lower.specs.Answers.{AnswersStep}
use Rattle.mw_lower.specs.Further.{rule_of}
use Rattle.mw_lower.specs.Methods.{IsMethodStep}
use Rattle.mw_lower.proofs.DerivationSteps.{stands_for, no_shape_derived, no_formula, no_subproofs}
use Rattle.mw_lower.proofs.Members.{members_turned, list_replaced, no_list_replaced}
use Rattle.mw_lower.proofs.TurnedSteps.{further_turned, method_turned}
use Rattle.mw_lower.proofs.turn.turn.Goals as goal

pub returns-in_default-clause-turned : goal.returns-in_default-clause-turned
returns-in_default-clause-turned c = λ A k.
    no_shape_derived (basis_over c.args.heap.now.objects A c.args.basis.now) (object_at c.args.heap.now.objects c.args.p) (sym c.in_default.ensures.shape)

pub returns-then-not-is_formula-clause-turned : goal.returns-then-not-is_formula-clause-turned
returns-then-not-is_formula-clause-turned c = λ A k.
    let os = c.args.heap.now.objects in
    let b = basis_over os A c.args.basis.now in
    no_formula b os c.args.p c.in-Some.step c.in-Some.ensures.shape c.in-Some.ensures.members (sym (c.is_formula.ensures A os k) ∙ c.if-not-is_formula.true)

pub returns-in_default-2-clause-turned : goal.returns-in_default-2-clause-turned
returns-in_default-2-clause-turned c = λ A k.
    let os = c.args.heap.now.objects in
    let b = basis_over os A c.args.basis.now in
    let m = c.in-Some.step in
    let known = members_turned b os c.args.turned.now.entries c.args.p m c.in-Some.ensures.shape c.in-Some.ensures.members (c.requires.known A k) in
    no_subproofs b os c.args.p m c.in-Some.ensures.shape c.in-Some.ensures.members (no_list_replaced b os (object_at os m.subproofs) c.in_ok-proofs.field-0 c.in_default-2.is (c.in_ok-proofs.ensures.turned b known))

pub further_step-requires-clause-proofs : goal.further_step-requires-clause-proofs
further_step-requires-clause-proofs c =
    let os = c.args.heap.now.objects in
    let A = c.requires.marks.0 in
    let b = basis_over os A c.args.basis.now in
    let known = members_turned b os c.args.turned.now.entries c.args.p c.in-Some.step c.in-Some.ensures.shape c.in-Some.ensures.members (c.requires.known A c.requires.marks.1) in
    subst (All (IsIn os)) (sym c.as_slice.ensures.value) (subst (λ o. IfSome o (λ v. All (IsIn os) v.items)) c.in-Some-2.is (c.in_ok-proofs.ensures.within b known))

pub returns-in-Some-further_of-clause-turned : goal.returns-in-Some-further_of-clause-turned
returns-in-Some-further_of-clause-turned c = IfOk-weaker c.further_step.result _ _ (λ o h A k.
    let os = c.args.heap.now.objects in
    let new = c.further_step.new.heap.objects in
    let b = basis_over os A c.args.basis.now in
    let m = c.in-Some.step in
    let shape = c.in-Some.ensures.shape in
    let am = c.in-Some.ensures.members in
    let rule = c.in-Some-further_of.rule in
    let known = members_turned b os c.args.turned.now.entries c.args.p m shape am (c.requires.known A k) in
    let replaced = list_replaced b os (object_at os m.subproofs) c.in_ok-proofs.field-0 c.in-Some-2.proofs c.in-Some-2.is (c.in_ok-proofs.ensures.turned b known) in
    let concluded = stands_for A (object_at os m.conclusion) (sym (c.is_formula.ensures A os k) ∙ c.if-not-is_formula.false) in
    further_turned b os new c.args.p m shape am concluded c.in-Some-2.proofs.items replaced rule (sym c.in-Some-further_of.ensures) (c.requires.equality A) o
    (subst (λ rs. AnswersStep (rule_of rule) (object_at os m.conclusion) (object_at os m.extras) (list_object os rs) new o) c.as_slice.ensures.value h)) c.further_step.ensures.answer

pub method_step-requires-clause-formula : goal.method_step-requires-clause-formula
method_step-requires-clause-formula c = (c.requires.marks.0, sym (c.is_formula.ensures c.requires.marks.0 c.args.heap.now.objects c.requires.marks.1) ∙ c.if-not-is_formula.false)

pub method_step-requires-clause-within : goal.method_step-requires-clause-within
method_step-requires-clause-within c =
    let os = c.args.heap.now.objects in
    let A = c.requires.marks.0 in
    let b = basis_over os A c.args.basis.now in
    let known = members_turned b os c.args.turned.now.entries c.args.p c.in-Some.step c.in-Some.ensures.shape c.in-Some.ensures.members (c.requires.known A c.requires.marks.1) in
    subst (All (IsIn os)) (sym c.as_slice-in-None.ensures.value) (subst (λ o. IfSome o (λ v. All (IsIn os) v.items)) c.in-Some-2.is (c.in_ok-proofs.ensures.within b known))

pub method_step-requires-clause-proofs : goal.method_step-requires-clause-proofs
method_step-requires-clause-proofs c = λ A k.
    let os = c.args.heap.now.objects in
    let b = basis_over os A c.args.basis.now in
    let m = c.in-Some.step in
    let known = members_turned b os c.args.turned.now.entries c.args.p m c.in-Some.ensures.shape c.in-Some.ensures.members (c.requires.known A k) in
    let replaced = list_replaced b os (object_at os m.subproofs) c.in_ok-proofs.field-0 c.in-Some-2.proofs c.in-Some-2.is (c.in_ok-proofs.ensures.turned b known) in
    (replaced.formulas, subst (λ rs. ProveEach b.axioms b.theorems b.table b.profile (list_object os rs) replaced.formulas) (sym c.as_slice-in-None.ensures.value) replaced.proved)

pub returns-clause-turned : goal.returns-clause-turned
returns-clause-turned c = IfOk-weaker c.method_step.result _ _ (λ o h A k.
    let os = c.args.heap.now.objects in
    let new = c.method_step.new.heap.objects in
    let b = basis_over os A c.args.basis.now in
    let m = c.in-Some.step in
    let shape = c.in-Some.ensures.shape in
    let am = c.in-Some.ensures.members in
    let known = members_turned b os c.args.turned.now.entries c.args.p m shape am (c.requires.known A k) in
    let replaced = list_replaced b os (object_at os m.subproofs) c.in_ok-proofs.field-0 c.in-Some-2.proofs c.in-Some-2.is (c.in_ok-proofs.ensures.turned b known) in
    let concluded = stands_for A (object_at os m.conclusion) (sym (c.is_formula.ensures A os k) ∙ c.if-not-is_formula.false) in
    method_turned b os new c.args.p m shape am concluded c.in-Some-2.proofs.items replaced (sym c.in-None.ensures) o
    (subst (λ rs. IsMethodStep b os c.args.p m (list_object os rs) new o) c.as_slice-in-None.ensures.value (h A k))) c.method_step.ensures.answer
