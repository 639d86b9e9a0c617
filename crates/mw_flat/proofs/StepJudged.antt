-- The conclusion of a step, test by test.
use Rattle.std.proofs.Common.{◌≡◌, ℕ, ◌+◌, Bool, true, false, ◌&&◌, not, List, length, Option, Some, None, refl, sym, ap, ◌∙◌, subst}
use Rattle.mw_model.specs.Terms.Object.{Object, Natural, same_object, second_of, third_of, fourth_of, fifth_of, sixth_of, has_members}
use Rattle.mw_model.specs.Terms.Term.{Formula, ArityTable}
use Rattle.mw_model.specs.Terms.Reading.{when, formula_of}
use Rattle.mw_model.specs.Values.Primitive.{Profile}
use Rattle.mw_model.specs.Events.Fate.{is_out_of_range}
use Rattle.mw_model.specs.Proofs.Proof.{Method}
use Rattle.mw_model.specs.Proofs.Judgment.{methods, method_among, judge_step}
use Rattle.mw_commands.specs.Commands.Log.{naturals_of, formulas_at, conclusion}
use Rattle.mw_flat.specs.Steps.{IsConclusion}

-- nothing of what is none
pub is-none : (os : List Object) (o : Option Formula) → o ≡ None → IsConclusion os None o
is-none os o h = subst (IsConclusion os None) (sym h) tt

third-false : (a o s : Bool) → s ≡ false → (a && (not o && s)) ≡ false
third-false true true s h = refl
third-false true false s h = h
third-false false o s h = refl

pub when-false : {X : Type 0} (b : Bool) (o : Option X) → b ≡ false → when b o ≡ None
when-false false o h = refl
when-false true o h = cc

pub when-none : {X : Type 0} (b : Bool) (o : Option X) → o ≡ None → when b o ≡ None
when-none true o h = h
when-none false o h = refl

no_premises : (ax th : Object) (A : ArityTable) (P : Profile) (m : Option Method) (o : Option Formula) (fs : Option (List Formula)) (y : Object) → fs ≡ None → judge_step ax th A P m o fs y ≡ None
no_premises ax th A P None o fs y h = refl
no_premises ax th A P (Some m) None fs y h = refl
no_premises ax th A P (Some m) (Some F) None y h = refl
no_premises ax th A P (Some m) (Some F) (Some Gs) y h = cc

module _ (ax th : Object) (A : ArityTable) (P : Profile) (Fs : List Formula) (x : Object) where
  -- it has another number
  pub not-counted : (n : Object) (k : ℕ) → second_of x ≡ n → k ≡ length Fs + 1 → same_object n (Natural k) ≡ false → conclusion ax th A P Fs x ≡ None
  not-counted n k is k_is other =
      let s : same_object (second_of x) (Natural (length Fs + 1)) ≡ false = ap (λ y. same_object y (Natural (length Fs + 1))) is ∙ (ap (λ j. same_object n (Natural j)) (sym k_is) ∙ other) in
      when-false (has_members 6 x && (not (is_out_of_range x) && same_object (second_of x) (Natural (length Fs + 1)))) _ (third-false (has_members 6 x) (is_out_of_range x) (same_object (second_of x) (Natural (length Fs + 1))) s)

  -- it has not six members
  pub not-six : has_members 6 x ≡ false → conclusion ax th A P Fs x ≡ None
  not-six h = when-false (has_members 6 x && (not (is_out_of_range x) && same_object (second_of x) (Natural (length Fs + 1)))) _ (ap (λ b. b && (not (is_out_of_range x) && same_object (second_of x) (Natural (length Fs + 1)))) h)

  -- its method is none
  pub not-method : method_among methods (third_of x) ≡ None → conclusion ax th A P Fs x ≡ None
  not-method h =
      when-none (has_members 6 x && (not (is_out_of_range x) && same_object (second_of x) (Natural (length Fs + 1)))) _
      (ap (λ m. judge_step ax th A P m (formula_of (fourth_of x)) (formulas_at Fs (naturals_of (fifth_of x))) (sixth_of x)) h)

  -- its subproofs are no numbers of conclusions
  pub not-listed : formulas_at Fs (naturals_of (fifth_of x)) ≡ None → conclusion ax th A P Fs x ≡ None
  not-listed h = when-none (has_members 6 x && (not (is_out_of_range x) && same_object (second_of x) (Natural (length Fs + 1)))) _ (no_premises ax th A P _ _ (formulas_at Fs (naturals_of (fifth_of x))) _ h)
