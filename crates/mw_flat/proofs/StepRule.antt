-- The conclusion of a step by the rule of its method, once its other tests hold.
use Rattle.std.proofs.Common.{◌≡◌, ℕ, ◌+◌, Bool, true, false, ◌&&◌, not, List, length, Option, Some, None, refl, sym, ap, ap₂, ◌∙◌, subst, is_some}
use Rattle.std.proofs.lemmas.Bool.{and_left}
use Rattle.mw_model.specs.Terms.Object.{Object, Natural, same_object, second_of, third_of, fourth_of, fifth_of, sixth_of, has_members}
use Rattle.mw_model.specs.Terms.Term.{Formula, ArityTable, formula_object, is_formula, IsFormula}
use Rattle.mw_model.specs.Values.Truth.{Each}
use Rattle.mw_model.specs.Terms.Reading.{that, when, formula_of}
use Rattle.mw_model.specs.Values.Primitive.{Profile}
use Rattle.mw_model.specs.Events.Fate.{is_out_of_range}
use Rattle.mw_model.specs.Proofs.Proof.{Method}
use Rattle.mw_model.specs.Proofs.Judgment.{methods, method_among, follows, judge_step}
use Rattle.mw_model.specs.Laws.Rules.{is_formula_object}
use Rattle.mw_model.specs.Laws.RulesInduction.{formulas_object}
use Rattle.mw_commands.specs.Commands.Log.{naturals_of, formulas_at, conclusion}
use Rattle.mw_heap.specs.Objects.{object_at}
use Rattle.mw_rules.specs.Step.{rule_holds}
use Rattle.mw_rules.proofs.CallerLemmas.{rule_holds-is}
use Rattle.mw_flat.specs.Steps.{IsConclusion}
use Rattle.mw_flat.proofs.Formulas.{absent-when, formula-named}
use Rattle.mw_flat.proofs.StepJudged.{when-false, when-none}

when-true : {X : Type 0} (b : Bool) (o : Option X) → b ≡ true → when b o ≡ o
when-true true o h = refl
when-true false o h = cc

all-true : (a o s : Bool) → a ≡ true → o ≡ false → s ≡ true → (a && (not o && s)) ≡ true
all-true true false s h k l = l
all-true true true s h k l = cc
all-true false o s h k l = cc

-- what a step has, of the method m, the conclusion c, the list cs of its premises and the extras y
pub record IsTested (A : ArityTable) (Fs : List Formula) (x : Object) (m : Method) (c cs y : Object) : Type 0 where
  pub six : has_members 6 x ≡ true
  pub in_range : is_out_of_range x ≡ false
  pub number : same_object (second_of x) (Natural (length Fs + 1)) ≡ true
  pub method : method_among methods (third_of x) ≡ Some m
  pub conclusion : fourth_of x ≡ c
  pub formula : is_formula_object A c ≡ true
  pub premises : (Gs : List Formula) × (formulas_at Fs (naturals_of (fifth_of x)) ≡ Some Gs) × (formulas_object Gs ≡ cs) × Each (IsFormula A) Gs
  pub extras : sixth_of x ≡ y

module _ (ax th : Object) (A : ArityTable) (P : Profile) where
  no_formula : (m : Option Method) (o : Option Formula) (fs : Option (List Formula)) (y : Object) → is_some (that (is_formula A) o) ≡ false → judge_step ax th A P m o fs y ≡ None
  no_formula None o fs y h = refl
  no_formula (Some m) None fs y h = refl
  no_formula (Some m) (Some F) None y h = refl
  no_formula (Some m) (Some F) (Some Gs) y h = when-false (is_formula A F && follows ax th A P m F Gs y) (Some F) (and_left (is_formula A F) (follows ax th A P m F Gs y) (absent-when (is_formula A F) F h))

  by_rule : (m : Method) (F : Formula) (Gs : List Formula) (c cs y : Object) → IsFormula A F → Each (IsFormula A) Gs → c ≡ formula_object F → formulas_object Gs ≡ cs → judge_step ax th A P (Some m) (Some F) (Some Gs) y ≡ when (rule_holds ax th A P (Some m) c cs y) (Some F)
  by_rule m F Gs c cs y i j c_is cs_is =
      let rule : rule_holds ax th A P (Some m) c cs y ≡ follows ax th A P m F Gs y = ap₂ (λ u v. rule_holds ax th A P (Some m) u v y) c_is (sym cs_is) ∙ rule_holds-is ax th A P m F Gs y i j in
      ap (λ b. when (b && follows ax th A P m F Gs y) (Some F)) i ∙ ap (λ b. when b (Some F)) (sym rule)

  module _ (Fs : List Formula) (x : Object) where
    -- its conclusion is no formula
    pub not-formula : (c : Object) → fourth_of x ≡ c → is_formula_object A c ≡ false → conclusion ax th A P Fs x ≡ None
    not-formula c is h =
        when-none (has_members 6 x && (not (is_out_of_range x) && same_object (second_of x) (Natural (length Fs + 1)))) _
        (no_formula (method_among methods (third_of x)) (formula_of (fourth_of x)) (formulas_at Fs (naturals_of (fifth_of x))) (sixth_of x) (ap (is_formula_object A) is ∙ h))

    module _ (m : Method) (c cs y : Object) (t : IsTested A Fs x m c cs y) where
      tested : (F : Formula) → formula_of c ≡ Some F → IsFormula A F → c ≡ formula_object F → conclusion ax th A P Fs x ≡ when (rule_holds ax th A P (Some m) c cs y) (Some F)
      tested F is i c_is =
          let Gs = t.premises.0 in
          when-true (has_members 6 x && (not (is_out_of_range x) && same_object (second_of x) (Natural (length Fs + 1)))) _ (all-true (has_members 6 x) (is_out_of_range x) (same_object (second_of x) (Natural (length Fs + 1))) t.six t.in_range t.number)
          ∙ (ap₂ (λ k d. judge_step ax th A P k (formula_of d) (formulas_at Fs (naturals_of (fifth_of x))) (sixth_of x)) t.method t.conclusion
          ∙ (ap₂ (λ o fs. judge_step ax th A P (Some m) o fs (sixth_of x)) is t.premises.1
          ∙ (ap (judge_step ax th A P (Some m) (Some F) (Some Gs)) t.extras ∙ by_rule m F Gs c cs y i t.premises.3 c_is t.premises.2)))

      -- the rule holds
      pub rule-holds : (os : List Object) (r : ℕ) → object_at os r ≡ c → true ≡ rule_holds ax th A P (Some m) c cs y → IsConclusion os (Some r) (conclusion ax th A P Fs x)
      rule-holds os r r_is h =
          let n = formula-named A c t.formula in
          subst (IsConclusion os (Some r)) (sym (tested n.0 n.2 n.1 n.3 ∙ ap (λ b. when b (Some n.0)) (sym h))) (r_is ∙ n.3)

      -- it does not
      pub no-rule : (os : List Object) → false ≡ rule_holds ax th A P (Some m) c cs y → IsConclusion os None (conclusion ax th A P Fs x)
      no-rule os h =
          let n = formula-named A c t.formula in
          subst (IsConclusion os None) (sym (tested n.0 n.2 n.1 n.3 ∙ ap (λ b. when b (Some n.0)) (sym h))) tt
