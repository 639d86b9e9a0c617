-- By the members of the proof.
use Rattle.std.proofs.Common.{◌≡◌, true, false, ◌⊎◌, inl, inr, length, Some, IfSome, option_map, sym, ap, ◌∙◌, subst, arith}
use Rattle.std.specs.List.{All}
use Rattle.mw_model.specs.Terms.Term.{ArityTable}
use Rattle.mw_model.specs.Proofs.Judgment.{methods, method_among}
use Rattle.mw_model.specs.Laws.RulesInduction.{length_object}
use Rattle.mw_model.specs.Laws.Rules.{is_formula_object}
use Rattle.mw_heap.specs.Objects.{object_at, IsIn}
use Rattle.mw_heap.specs.Variants.{profile_of}
use Rattle.mw_heap.proofs.Objects.{Grows-refl}
use Rattle.mw_rules.specs.Step.{rule_holds}
use Rattle.mw_heap.specs.Lists.{list_object}
use Rattle.mw_rules.specs.Methods.{method_of_logic}
use Rattle.mw_proof.specs.Gathered.{AddsMembers}
use Rattle.mw_proof.proofs.Gathering.{adds}
use Rattle.mw_proof.specs.Judging.{basis, have_conclusions, AreConclusions, IsOver, IsAnswer}
use Rattle.mw_proof.proofs.Deciding.{conclusions_formulas, no_formula, no_conclusions, no_method, too_many, by_rule, below, All-map, IfOk-map, IfOk-any}
use Rattle.mw_proof.proofs.step.decide.Goals as goal

pub returns-in_default-of-clause-answer : goal.returns-in_default-of-clause-answer
returns-in_default-of-clause-answer c = λ A k.
    let os = c.args.heap.now.objects in
    let b = basis os A c.args.axioms.now c.args.theorems.now (profile_of c.args.profile) in
    let m = c.in-Some.members in
    let am = c.in-Some.ensures.members in
    sym (no_method b os c.args.p m c.in-Some.ensures.shape am (sym c.of.ensures ∙ ap (option_map method_of_logic) c.in_default-of.is))

pub returns-then-not-is_formula-clause-grows : goal.returns-then-not-is_formula-clause-grows
returns-then-not-is_formula-clause-grows c = Grows-refl c.args.heap.now.objects

pub returns-then-not-is_formula-clause-answer : goal.returns-then-not-is_formula-clause-answer
returns-then-not-is_formula-clause-answer c = λ A k.
    let os = c.args.heap.now.objects in
    let b = basis os A c.args.axioms.now c.args.theorems.now (profile_of c.args.profile) in
    let m = c.in-Some.members in
    let am = c.in-Some.ensures.members in
    sym (no_formula b os c.args.p m c.in-Some.ensures.shape am (sym (c.is_formula.ensures A os k) ∙ c.if-not-is_formula.true))

pub returns-in_err-conclusions-clause-grows : goal.returns-in_err-conclusions-clause-grows
returns-in_err-conclusions-clause-grows c = Grows-refl c.args.heap.now.objects

pub returns-in_default-2-clause-grows : goal.returns-in_default-2-clause-grows
returns-in_default-2-clause-grows c = Grows-refl c.args.heap.now.objects

pub returns-in_default-2-clause-answer : goal.returns-in_default-2-clause-answer
returns-in_default-2-clause-answer c = λ A k.
    let os = c.args.heap.now.objects in
    let b = basis os A c.args.axioms.now c.args.theorems.now (profile_of c.args.profile) in
    let m = c.in-Some.members in
    let am = c.in-Some.ensures.members in
    let named : method_among methods (object_at os m.method) ≡ Some (method_of_logic c.in-Some-of.method) = sym c.in-Some-of.ensures in
    let answer : (have_conclusions A (object_at os m.subproofs) ≡ false) ⊎ IsOver c.most_subproofs-most.result (length_object (object_at os m.subproofs)) = subst (IsAnswer A os m.subproofs c.most_subproofs-most.result) c.in_default-2.is (c.in_ok-conclusions.ensures.answer A k) in
    elim answer [
      | inl bad ↦ sym (no_conclusions b os c.args.p m c.in-Some.ensures.shape am bad)
      | inr over ↦ sym (too_many b os c.args.p m c.in-Some.ensures.shape am (method_of_logic c.in-Some-of.method) named (subst (λ most. IsOver most (length_object (object_at os m.subproofs))) c.most_subproofs-most.ensures over))
    ]

pub follows-requires-clause-formula : goal.follows-requires-clause-formula
follows-requires-clause-formula c =
    let A = c.requires.marks.0 in
    let k = c.requires.marks.1 in
    (A, sym (c.is_formula.ensures A c.args.heap.now.objects k) ∙ c.if-not-is_formula.false)

pub follows-requires-clause-premises : goal.follows-requires-clause-premises
follows-requires-clause-premises c =
    let A = c.requires.marks.0 in
    let k = c.requires.marks.1 in
    let os = c.args.heap.now.objects in
    let m = c.in-Some.members in
    let am = c.in-Some.ensures.members in
    let collected : AreConclusions A os m.subproofs c.in-Some-2.conclusions.items = (subst (IsAnswer A os m.subproofs c.most_subproofs-most.result) c.in-Some-2.is (c.in_ok-conclusions.ensures.answer A k)).0 in
    subst (All (IsIn os)) (sym c.deref.ensures.value) (below c.in-Some-2.conclusions.items m.subproofs c.args.p (length os) collected.before am.subproofs_before (omega (arith, c.requires.within, k.within)))

pub follows-requires-clause-formulas : goal.follows-requires-clause-formulas
follows-requires-clause-formulas c =
    let A = c.requires.marks.0 in
    let k = c.requires.marks.1 in
    let os = c.args.heap.now.objects in
    let b = basis os A c.args.axioms.now c.args.theorems.now (profile_of c.args.profile) in
    let m = c.in-Some.members in
    let collected : AreConclusions A os m.subproofs c.in-Some-2.conclusions.items = (subst (IsAnswer A os m.subproofs c.most_subproofs-most.result) c.in-Some-2.is (c.in_ok-conclusions.ensures.answer A k)).0 in
    subst (All (λ r. (A : ArityTable) × (is_formula_object A (object_at os r) ≡ true))) (sym c.deref.ensures.value)
    (All-map (λ r. is_formula_object A (object_at os r) ≡ true) (λ r. (A : ArityTable) × (is_formula_object A (object_at os r) ≡ true)) c.in-Some-2.conclusions.items (λ r h. (A, h))
    (conclusions_formulas b os (object_at os m.subproofs) c.in-Some-2.conclusions.items collected.formulas collected.list_is))

pub returns-clause-answer : goal.returns-clause-answer
returns-clause-answer c = IfOk-map c.follows.result _ _ (λ t h A k.
    let os = c.args.heap.now.objects in
    let b = basis os A c.args.axioms.now c.args.theorems.now (profile_of c.args.profile) in
    let m = c.in-Some.members in
    let am = c.in-Some.ensures.members in
    let collected : AreConclusions A os m.subproofs c.in-Some-2.conclusions.items = (subst (IsAnswer A os m.subproofs c.most_subproofs-most.result) c.in-Some-2.is (c.in_ok-conclusions.ensures.answer A k)).0 in
    let named : method_among methods (object_at os m.method) ≡ Some (method_of_logic c.in-Some-of.method) = sym c.in-Some-of.ensures in
    let formula : is_formula_object A (object_at os m.conclusion) ≡ true = sym (c.is_formula.ensures A os k) ∙ c.if-not-is_formula.false in
    h A k
    ∙ (ap (λ rs. rule_holds b.axioms b.theorems A b.profile (Some (method_of_logic c.in-Some-of.method)) (object_at os m.conclusion) (list_object os rs) (object_at os m.extras)) c.deref.ensures.value
    ∙ by_rule b os c.args.p m c.in-Some.ensures.shape am (method_of_logic c.in-Some-of.method) c.in-Some-2.conclusions.items named formula collected)) c.follows.ensures.answer

pub returns-clause-found : goal.returns-clause-found
returns-clause-found c = IfOk-any c.follows.result (
    let os = c.args.heap.now.objects in
    let m = c.in-Some.members in
    let am = c.in-Some.ensures.members in
    let before = am.subproofs_before in
    let members = subst (λ o. IfSome o (λ cs. AddsMembers os m.subproofs c.args.found.now.keys c.conclusions_of.new.found.keys)) c.in-Some-2.is c.in_ok-conclusions.ensures.found in
    adds os c.args.p m.subproofs c.args.found.now.keys c.conclusions_of.new.found.keys members (omega (arith, before)) am.subproofs_are (sym c.in-Some.ensures.shape)
    )
