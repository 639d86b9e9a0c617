-- What has a subproof without a conclusion, or more subproofs than its rule takes, is no derivation.
use Rattle.std.proofs.Common.{◌≡◌, ℕ, ◌<◌, Bool, true, false, ◌&&◌, cond, List, [], ◌∷◌, length, Option, Some, None, refl, sym, ap, ◌∙◌, subst, arith}
use Rattle.std.proofs.lemmas.Bool.{and_right}
use Rattle.mw_model.specs.Terms.Object.{Object, Natural, Symbol, Pair, NIL, same_name, same_object, nil_name, second_of}
use Rattle.mw_model.specs.Terms.Term.{Formula, is_formula}
use Rattle.mw_model.specs.Terms.Reading.{formula_of, and_more, when}
use Rattle.mw_model.specs.Proofs.Proof.{Method, Axiom, Theorem, PropositionalSchema, FunctionalEquality, BetaReduction, BaseEval, Expansion, Contraction, Associativity, Cut, Instantiation, Induction}
use Rattle.mw_model.proofs.Rows.{of_none, of_one, of_two, rows, follows-rows}
use Rattle.mw_model.specs.Laws.Rules.{is_formula_object}
use Rattle.mw_model.specs.Laws.RulesInduction.{length_object}
use Rattle.mw_model.proofs.ReadBack.{some_one, cond_some, and_more-back}
use Rattle.mw_commands.specs.Commands.Derivation.{Rule, By, CommuteOr, ModusPonens, Symmetry, Transitivity, Replace}
use Rattle.mw_commands.specs.Commands.DerivationTest.{rules, rule_among, derives}
use Rattle.mw_commands.proofs.RuleRows.{commute-row, detach-row, symmetry-row, chain-row}
use Rattle.mw_heap.specs.Objects.{object_at}
use Rattle.mw_proof.specs.Step.{has_proof_shape, subproofs_of}
use Rattle.mw_proof.specs.Members.{AreMembers}
use Rattle.mw_proof.specs.Judging.{Basis, have_conclusions, IsOver}
use Rattle.mw_proof.specs.declared.members.Members.{Members}
use Rattle.mw_lower.specs.Further.{most_premises_of, most_premises}
use Rattle.mw_lower.specs.Turned.{derived_on, each_derived_on}
use Rattle.mw_lower.proofs.DerivationSteps.{none_more, more_none, derived_by, shape_derived, no_shape_derived, no_list_derived, no_formula_derived, members_derived}

of_none_over : (test : Bool) (Fs : List Formula) → 0 < length Fs → of_none test Fs ≡ false
of_none_over test [] l = absurd (omega arith)
of_none_over test (F ∷ Fs) l = refl

of_one_over : (test : Formula → Bool) (Fs : List Formula) → 1 < length Fs → of_one test Fs ≡ false
of_one_over test [] l = refl
of_one_over test (F ∷ []) l = absurd (omega arith)
of_one_over test (F ∷ G ∷ Fs) l = refl

of_two_over : (test : Formula → Formula → Bool) (Fs : List Formula) → 2 < length Fs → of_two test Fs ≡ false
of_two_over test [] l = refl
of_two_over test (F ∷ []) l = refl
of_two_over test (F ∷ G ∷ []) l = absurd (omega arith)
of_two_over test (F ∷ G ∷ H ∷ Fs) l = refl

module _ (b : Basis) where
  over_row : (m : Method) (F : Formula) (Fs : List Formula) (x : Object) → IsOver (most_premises_of (By m)) (length Fs) → rows b.axioms b.theorems b.table b.profile m F Fs x ≡ false
  over_row Axiom F Fs x l = and_right (same_object x NIL) _ (of_none_over _ Fs l)
  over_row Theorem F Fs x l = and_right (same_object x NIL) _ (of_none_over _ Fs l)
  over_row PropositionalSchema F Fs x l = and_right (same_object x NIL) _ (of_none_over _ Fs l)
  over_row FunctionalEquality F Fs x l = and_right (same_object x NIL) _ (of_none_over _ Fs l)
  over_row BetaReduction F Fs x l = and_right (same_object x NIL) _ (of_none_over _ Fs l)
  over_row BaseEval F Fs x l = and_right (same_object x NIL) _ (of_none_over _ Fs l)
  over_row Expansion F Fs x l = and_right (same_object x NIL) _ (of_one_over _ Fs l)
  over_row Contraction F Fs x l = and_right (same_object x NIL) _ (of_one_over _ Fs l)
  over_row Associativity F Fs x l = and_right (same_object x NIL) _ (of_one_over _ Fs l)
  over_row Cut F Fs x l = and_right (same_object x NIL) _ (of_two_over _ Fs l)
  over_row Instantiation F Fs x l = of_one_over _ Fs l
  over_row Induction F Fs x l = absurd l

  -- a rule takes no more premises
  over : (r : Rule) (F : Formula) (Fs : List Formula) (x : Object) → IsOver (most_premises_of r) (length Fs) → derives b.axioms b.theorems b.table b.profile r F Fs x ≡ false
  over (By m) F Fs x l = follows-rows b.axioms b.theorems b.table b.profile m F Fs x ∙ over_row m F Fs x l
  over CommuteOr F Fs x l = commute-row b.axioms b.theorems b.table b.profile F Fs x ∙ and_right (same_object x NIL) _ (of_one_over _ Fs l)
  over ModusPonens F Fs x l = detach-row b.axioms b.theorems b.table b.profile F Fs x ∙ and_right (same_object x NIL) _ (of_two_over _ Fs l)
  over Symmetry F Fs x l = symmetry-row b.axioms b.theorems b.table b.profile F Fs x ∙ and_right (same_object x NIL) _ (of_one_over _ Fs l)
  over Transitivity F Fs x l = chain-row b.axioms b.theorems b.table b.profile F Fs x ∙ and_right (same_object x NIL) _ (of_two_over _ Fs l)
  over Replace F Fs x l = absurd l

  over_derived : (r : Option Rule) (F : Option Formula) (Fs : List Formula) (x : Object) → IsOver (most_premises r) (length Fs) → derived_by b r F (Some Fs) (Some x) ≡ None
  over_derived None F Fs x l = refl
  over_derived (Some r) None Fs x l = refl
  over_derived (Some r) (Some F) Fs x l = ap (λ t. when t (Some F)) (and_right (is_formula b.table F) _ (over r F Fs x l))

  -- as many formulas are derived as there are derivations
  each_counted : (x : Object) (Fs : List Formula) → each_derived_on b x ≡ Some Fs → length Fs ≡ length_object x
  each_counted (Pair p ps) Fs h =
      let q = and_more-back (derived_on b p) (each_derived_on b ps) Fs h in
      let rest : length q.1 ≡ length_object ps = each_counted ps q.1 q.3 in
      omega (arith, rest, ap length q.4)
  each_counted (Symbol s) Fs h = let q : [] ≡ Fs = some_one (cond_some (same_name s nil_name) (Some []) Fs h).1 in omega (arith, ap length q)
  each_counted (Natural n) Fs h = cc

  no_conclusion : (p : Object) → is_formula_object b.table (second_of p) ≡ false → derived_on b p ≡ None
  no_conclusion p h = go (has_proof_shape p) refl
    where
      go : (t : Bool) → has_proof_shape p ≡ t → derived_on b p ≡ None
      go true e = shape_derived b p e ∙ no_formula_derived b _ (formula_of (second_of p)) (each_derived_on b (subproofs_of p)) _ h
      go false e = no_shape_derived b p e

  pub no_conclusions : (x : Object) → have_conclusions b.table x ≡ false → each_derived_on b x ≡ None
  no_conclusions (Pair p ps) h = go (is_formula_object b.table (second_of p)) refl h (no_conclusions ps)
    where
      go : (t : Bool) → is_formula_object b.table (second_of p) ≡ t → (t && have_conclusions b.table ps) ≡ false → (have_conclusions b.table ps ≡ false → each_derived_on b ps ≡ None) → and_more (derived_on b p) (each_derived_on b ps) ≡ None
      go false e k ih = ap (λ o. and_more o (each_derived_on b ps)) (no_conclusion p e) ∙ none_more (each_derived_on b ps)
      go true e k ih = ap (and_more (derived_on b p)) (ih k) ∙ more_none (derived_on b p)
  no_conclusions (Symbol s) h = ap (λ t. cond t (Some []) None) h
  no_conclusions (Natural n) h = refl

  pub too_many : (os : List Object) (p : ℕ) (m : Members) → true ≡ has_proof_shape (object_at os p) → AreMembers os p m → IsOver (most_premises (rule_among rules (object_at os m.method))) (length_object (object_at os m.subproofs)) → derived_on b (object_at os p) ≡ None
  too_many os p m shape am l = go (each_derived_on b (object_at os m.subproofs)) refl
    where
      go : (o : Option (List Formula)) → each_derived_on b (object_at os m.subproofs) ≡ o → derived_on b (object_at os p) ≡ None
      go None e = members_derived b os p m shape am ∙ (ap (λ o. derived_by b (rule_among rules (object_at os m.method)) (formula_of (object_at os m.conclusion)) o (Some (object_at os m.extras))) e ∙ no_list_derived b (rule_among rules (object_at os m.method)) (formula_of (object_at os m.conclusion)) (Some (object_at os m.extras)))
      go (Some Fs) e =
          members_derived b os p m shape am ∙ (ap (λ o. derived_by b (rule_among rules (object_at os m.method)) (formula_of (object_at os m.conclusion)) o (Some (object_at os m.extras))) e
          ∙ over_derived (rule_among rules (object_at os m.method)) (formula_of (object_at os m.conclusion)) Fs (object_at os m.extras) (subst (IsOver (most_premises (rule_among rules (object_at os m.method)))) (sym (each_counted (object_at os m.subproofs) Fs e)) l))
