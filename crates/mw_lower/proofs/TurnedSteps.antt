-- A step by a further rule, or by a method, becomes what is made in its place.
use Rattle.std.proofs.Common.{◌≡◌, ℕ, Bool, true, false, ◌||◌, List, Option, Some, None, option_map, refl, sym, ap, ap₂, ◌∙◌, subst, inl, inr}
use Rattle.std.proofs.lemmas.Bool.{true≢false, and_parts}
use Rattle.mw_model.specs.Terms.Object.{Object, Natural, Symbol, Pair, NIL, same_name, nil_name, car, second_of, fourth_of, list4}
use Rattle.mw_model.specs.Terms.Term.{formula_object, IsFormula}
use Rattle.mw_model.specs.Values.Truth.{Each}
use Rattle.mw_model.specs.Terms.Reading.{formula_of}
use Rattle.mw_model.specs.Laws.Rules.{is_formula_object}
use Rattle.mw_model.specs.Laws.RulesInduction.{formulas_object}
use Rattle.mw_model.specs.Proofs.Proof.{HasMembers, two, three, four, Method, method_name, proof, ProveEach}
use Rattle.mw_model.specs.Proofs.Judgment.{methods, method_among, follows}
use Rattle.mw_model.proofs.Names.{same_object-eq}
use Rattle.mw_model.proofs.ReadBack.{nil_is}
use Rattle.mw_model.proofs.Follows.{row_is}
use Rattle.mw_model.proofs.Judging.{method_among-name, goods_judge}
use Rattle.mw_commands.specs.Commands.Derivation.{Rule, By}
use Rattle.mw_commands.specs.Commands.DerivationTest.{rules, rule_among}
use Rattle.mw_heap.specs.Objects.{object_at}
use Rattle.mw_heap.specs.Lists.{list_object}
use Rattle.mw_rules.specs.Step.{rule_holds}
use Rattle.mw_proof.specs.Step.{has_proof_shape, subproofs_of, conclusions_object, step_holds}
use Rattle.mw_proof.specs.Members.{AreMembers}
use Rattle.mw_proof.specs.Gathered.{itself}
use Rattle.mw_proof.specs.Judging.{Basis, is_proof_on, are_proofs_on}
use Rattle.mw_proof.specs.declared.members.Members.{Members}
use Rattle.mw_rules.proofs.CallerLemmas.{rule_holds-is}
use Rattle.mw_proof.proofs.StepExact.{is_proof-step, judge_each-conclusions}
use Rattle.mw_proof.proofs.Deciding.{no_method}
use Rattle.mw_proof.proofs.Holding.{no_proof}
use Rattle.mw_lower.specs.declared.further.Further.{Further}
use Rattle.mw_lower.specs.Proofs.{IsProof, HasEquality}
use Rattle.mw_lower.specs.Answers.{AnswersStep}
use Rattle.mw_lower.specs.Further.{rule_of, further_rules, further_among}
use Rattle.mw_lower.specs.Methods.{method_follows, IsMethodStep, WithProofs}
use Rattle.mw_lower.specs.Turned.{derived_on, each_derived_on, IsTurned, AreReplaced}
use Rattle.mw_lower.proofs.RuleNames.{is_further, is_method, no_method as no_method_of}
use Rattle.mw_lower.proofs.DerivationSteps.{StandsFor, derived_by, members_derived, holds_derived, fails_derived}

-- what has the shape of a proof has its members
or-false : (t : Bool) → (t || false) ≡ true → t ≡ true
or-false true h = refl
or-false false h = h

shape_members : (p : Object) → has_proof_shape p ≡ true → HasMembers p (car p) (second_of p) (subproofs_of p) (fourth_of p)
shape_members (Pair m (Pair c (Pair ps (Pair x z)))) h = subst (λ y. HasMembers (Pair m (Pair c (Pair ps (Pair x y)))) m c ps x) (sym (same_object-eq z NIL h)) (four m c ps x)
shape_members (Pair m (Pair c (Pair ps (Symbol s)))) h = subst (λ y. HasMembers (Pair m (Pair c (Pair ps y))) m c ps NIL) (nil_is s (or-false (same_name s nil_name) h)) (three m c ps)
shape_members (Pair m (Pair c (Symbol s))) h = subst (λ y. HasMembers (Pair m (Pair c y)) m c NIL NIL) (nil_is s (or-false (same_name s nil_name) h)) (two m c)
shape_members (Pair m (Pair c (Pair ps (Natural n)))) h = cc
shape_members (Pair m (Pair c (Natural n))) h = cc
shape_members (Pair m (Natural n)) h = cc
shape_members (Pair m (Symbol n)) h = cc
shape_members (Natural n) h = cc
shape_members (Symbol n) h = cc

module _ (b : Basis) (os new : List Object) (p : ℕ) (m : Members) (shape : true ≡ has_proof_shape (object_at os p)) (am : AreMembers os p m) (c : StandsFor b.table (object_at os m.conclusion)) (qs : List ℕ) (r : AreReplaced b os (object_at os m.subproofs) qs) where
  by_rule : (rule : Rule) → rule_among rules (object_at os m.method) ≡ Some rule → derived_on b (object_at os p) ≡ derived_by b (Some rule) (Some c.formula) (Some r.formulas) (Some (object_at os m.extras))
  by_rule rule h =
      members_derived b os p m shape am
      ∙ (ap₂ (λ o F. derived_by b o F (each_derived_on b (object_at os m.subproofs)) (Some (object_at os m.extras))) h c.read
      ∙ ap (λ Fs. derived_by b (Some rule) (Some c.formula) Fs (Some (object_at os m.extras))) r.derived)

  pub further_turned : (f : Further) → further_among further_rules (object_at os m.method) ≡ Some f → HasEquality b → (o : Option ℕ) → AnswersStep (rule_of f) (object_at os m.conclusion) (object_at os m.extras) (list_object os qs) new o → IsTurned b new o (object_at os p)
  further_turned f named has None answers =
      by_rule (rule_of f) (is_further (object_at os m.method) f named) ∙ fails_derived b (rule_of f) c.formula r.formulas (object_at os m.extras) c.formed (answers b c.formula r.formulas has c.formed c.is r.proved)
  further_turned f named has (Some q) answers =
      let a = answers b c.formula r.formulas has c.formed c.is r.proved in
      let none : is_proof_on b (object_at os p) ≡ false = no_proof b (object_at os p) (object_at os p) itself (no_method b os p m shape am (no_method_of (object_at os m.method) f named)) in (
        a.1,
        record {
          formula = c.formula;
          derived = by_rule (rule_of f) (is_further (object_at os m.method) f named) ∙ holds_derived b (rule_of f) c.formula r.formulas (object_at os m.extras) c.formed a.0;
          proved = a.2;
          stays = λ h. absurd (true≢false (sym h ∙ none));
        },
      )

  -- the formulas of the premises
  judged : Each (IsFormula b.table) r.formulas × (formulas_object r.formulas ≡ conclusions_object (list_object os qs))
  judged =
      let js = goods_judge b.axioms b.theorems b.table b.profile (list_object os qs) r.formulas r.proved in
      (js.0, (judge_each-conclusions b.axioms b.theorems b.table b.profile (list_object os qs) r.formulas js.1).0)

  follows_is : (M : Method) → method_among methods (object_at os m.method) ≡ Some M → method_follows b os m (list_object os qs) ≡ follows b.axioms b.theorems b.table b.profile M c.formula r.formulas (object_at os m.extras)
  follows_is M e =
      ap (λ o. rule_holds b.axioms b.theorems b.table b.profile o (object_at os m.conclusion) (conclusions_object (list_object os qs)) (object_at os m.extras)) e
      ∙ (ap₂ (λ x y. rule_holds b.axioms b.theorems b.table b.profile (Some M) x y (object_at os m.extras)) c.is (sym judged.1)
      ∙ rule_holds-is b.axioms b.theorems b.table b.profile M c.formula r.formulas (object_at os m.extras) c.formed judged.0)

  -- what is made of the step proves the same
  remade : (M : Method) → method_among methods (object_at os m.method) ≡ Some M → follows b.axioms b.theorems b.table b.profile M c.formula r.formulas (object_at os m.extras) ≡ true → (q : Object) → WithProofs os p m (list_object os qs) q → IsProof b q c.formula
  remade M e holds q (inl w) =
      let mem = shape_members (object_at os p) (sym shape) in
      let named : car (object_at os p) ≡ Symbol (method_name M) = sym am.method_is ∙ sym (method_among-name methods (object_at os m.method) M e) in
      let concluded : second_of (object_at os p) ≡ formula_object c.formula = sym am.conclusion_is ∙ c.is in
      let with_names = subst (λ y. HasMembers (object_at os p) (Symbol (method_name M)) y (subproofs_of (object_at os p)) (fourth_of (object_at os p))) concluded (subst (λ y. HasMembers (object_at os p) y (second_of (object_at os p)) (subproofs_of (object_at os p)) (fourth_of (object_at os p))) named mem) in
      let with_parts = subst (λ y. HasMembers (object_at os p) (Symbol (method_name M)) (formula_object c.formula) (object_at os m.subproofs) y) (sym am.extras_are) (subst (λ y. HasMembers (object_at os p) (Symbol (method_name M)) (formula_object c.formula) y (fourth_of (object_at os p))) (sym am.subproofs_are) with_names) in
      subst (λ z. IsProof b z c.formula) (sym w.1)
      (proof (object_at os p) (object_at os m.subproofs) (object_at os m.extras) M c.formula r.formulas with_parts c.formed (subst (λ z. ProveEach b.axioms b.theorems b.table b.profile z r.formulas) w.0 r.proved)
      (row_is b.axioms b.theorems b.table b.profile M c.formula r.formulas (object_at os m.extras) holds))
  remade M e holds q (inr w) =
      let named : object_at os m.method ≡ Symbol (method_name M) = sym (method_among-name methods (object_at os m.method) M e) in
      let is : q ≡ list4 (Symbol (method_name M)) (formula_object c.formula) (list_object os qs) (object_at os m.extras) = w.1 ∙ ap₂ (λ x y. list4 x y (list_object os qs) (object_at os m.extras)) named c.is in
      subst (λ z. IsProof b z c.formula) (sym is)
      (proof (list4 (Symbol (method_name M)) (formula_object c.formula) (list_object os qs) (object_at os m.extras)) (list_object os qs) (object_at os m.extras) M c.formula r.formulas (four (Symbol (method_name M)) (formula_object c.formula) (list_object os qs) (object_at os m.extras)) c.formed r.proved
      (row_is b.axioms b.theorems b.table b.profile M c.formula r.formulas (object_at os m.extras) holds))

  -- a proof stays
  kept : is_proof_on b (object_at os p) ≡ true → (q : Object) → WithProofs os p m (list_object os qs) q → q ≡ object_at os p
  kept h q w =
      let x = object_at os p in
      let all = and_parts (has_proof_shape x) _ (sym (is_proof-step b.axioms b.theorems b.table b.profile x) ∙ h) in
      let rest = and_parts (is_formula_object b.table (second_of x)) _ all.1 in
      let proofs = and_parts (are_proofs_on b (subproofs_of x)) (step_holds b.axioms b.theorems b.table b.profile x) rest.1 in
      let same : list_object os qs ≡ object_at os m.subproofs = r.stay (ap (are_proofs_on b) am.subproofs_are ∙ proofs.0) in
      elim w [ inl k ↦ k.1 | inr k ↦ absurd (k.0 same) ]

  pub method_turned : further_among further_rules (object_at os m.method) ≡ None → (o : Option ℕ) → IsMethodStep b os p m (list_object os qs) new o → IsTurned b new o (object_at os p)
  method_turned none o h = go (method_among methods (object_at os m.method)) refl o h
    where
      go : (om : Option Method) → method_among methods (object_at os m.method) ≡ om → (o : Option ℕ) → IsMethodStep b os p m (list_object os qs) new o → IsTurned b new o (object_at os p)
      go None e None k =
          members_derived b os p m shape am
          ∙ ap (λ o. derived_by b o (formula_of (object_at os m.conclusion)) (each_derived_on b (object_at os m.subproofs)) (Some (object_at os m.extras))) (is_method (object_at os m.method) none ∙ ap (option_map By) e)
      go None e (Some q) k =
          absurd (true≢false (sym k.0 ∙ ap (λ o. rule_holds b.axioms b.theorems b.table b.profile o (object_at os m.conclusion) (conclusions_object (list_object os qs)) (object_at os m.extras)) e))
      go (Some M) e None k = by_rule (By M) (is_method (object_at os m.method) none ∙ ap (option_map By) e) ∙ fails_derived b (By M) c.formula r.formulas (object_at os m.extras) c.formed (sym (follows_is M e) ∙ k)
      go (Some M) e (Some q) k =
          let holds = sym (follows_is M e) ∙ k.0 in (
            k.1,
            record {
              formula = c.formula;
              derived = by_rule (By M) (is_method (object_at os m.method) none ∙ ap (option_map By) e) ∙ holds_derived b (By M) c.formula r.formulas (object_at os m.extras) c.formed holds;
              proved = remade M e holds (object_at new q) k.2;
              stays = λ t. kept t (object_at new q) k.2;
            },
          )
