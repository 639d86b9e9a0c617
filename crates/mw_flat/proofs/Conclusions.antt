-- The conclusions of steps with one step more, and that they are formulas.
use Rattle.std.proofs.Common.{◌≡◌, ◌+◌, List, [], ◌∷◌, ◌++◌, Option, Some, None, option_map, ◌&&◌, not, length, refl, subst}
use Rattle.std.proofs.lemmas.Bool.{and_parts}
use Rattle.mw_model.specs.Terms.Object.{Object, Natural, same_object, second_of, third_of, fourth_of, fifth_of, sixth_of, has_members}
use Rattle.mw_model.specs.Terms.Term.{Formula, ArityTable, is_formula, IsFormula}
use Rattle.mw_model.specs.Values.Truth.{Each}
use Rattle.mw_model.specs.Values.Primitive.{Profile}
use Rattle.mw_model.specs.Events.Fate.{is_out_of_range}
use Rattle.mw_model.specs.Proofs.Proof.{Method}
use Rattle.mw_model.specs.Proofs.Judgment.{methods, method_among, follows, judge_step}
use Rattle.mw_model.specs.Terms.Reading.{formula_of}
use Rattle.mw_model.proofs.ReadBack.{some_one, when_some}
use Rattle.mw_commands.specs.Commands.Log.{naturals_of, formulas_at, conclusion, and_conclusions, conclusions_after, conclusions}
use Rattle.mw_flat.proofs.Formulas.{Each-push}

module _ (ax th : Object) (A : ArityTable) (P : Profile) where
  -- those before, and that of the step after them
  abbrev pub with_step : Option (List Formula) → Object → Option (List Formula)
  with_step None x = None
  with_step (Some Fs) x = option_map (λ F. Fs ++ F ∷ []) (conclusion ax th A P Fs x)

  after-more : (xs : List Object) (x : Object) (Fs : List Formula) → conclusions_after ax th A P (xs ++ x ∷ []) Fs ≡ with_step (conclusions_after ax th A P xs Fs) x
  after-more [] x Fs = go (conclusion ax th A P Fs x)
    where
      go : (o : Option Formula) → and_conclusions (conclusions_after ax th A P []) Fs o ≡ option_map (λ F. Fs ++ F ∷ []) o
      go None = refl
      go (Some F) = refl
  after-more (y ∷ xs) x Fs = go (conclusion ax th A P Fs y) (λ F. after-more xs x (Fs ++ F ∷ []))
    where
      go : (o : Option Formula) → ((F : Formula) → conclusions_after ax th A P (xs ++ x ∷ []) (Fs ++ F ∷ []) ≡ with_step (conclusions_after ax th A P xs (Fs ++ F ∷ [])) x) → and_conclusions (conclusions_after ax th A P (xs ++ x ∷ [])) Fs o ≡ with_step (and_conclusions (conclusions_after ax th A P xs) Fs o) x
      go None ih = refl
      go (Some F) ih = ih F

  pub conclusions-more : (steps : List Object) (x : Object) → conclusions ax th A P (steps ++ x ∷ []) ≡ with_step (conclusions ax th A P steps) x
  conclusions-more steps x = after-more steps x []

  judged_formula : (m : Option Method) (o : Option Formula) (fs : Option (List Formula)) (y : Object) (F : Formula) → judge_step ax th A P m o fs y ≡ Some F → IsFormula A F
  judged_formula None o fs y F h = cc
  judged_formula (Some m) None fs y F h = cc
  judged_formula (Some m) (Some G) None y F h = cc
  judged_formula (Some m) (Some G) (Some Gs) y F h =
      let p = when_some (is_formula A G && follows ax th A P m G Gs y) (Some G) F h in
      subst (IsFormula A) (some_one p.1) (and_parts (is_formula A G) (follows ax th A P m G Gs y) p.0).0

  pub conclusion-formula : (Fs : List Formula) (x : Object) (F : Formula) → conclusion ax th A P Fs x ≡ Some F → IsFormula A F
  conclusion-formula Fs x F h =
      judged_formula (method_among methods (third_of x)) (formula_of (fourth_of x)) (formulas_at Fs (naturals_of (fifth_of x))) (sixth_of x) F (when_some (has_members 6 x && (not (is_out_of_range x) && same_object (second_of x) (Natural (length Fs + 1)))) _ F h).1

  after-formulas : (xs : List Object) (Fs Gs : List Formula) → Each (IsFormula A) Fs → conclusions_after ax th A P xs Fs ≡ Some Gs → Each (IsFormula A) Gs
  after-formulas [] Fs Gs i h = subst (Each (IsFormula A)) (some_one h) i
  after-formulas (x ∷ xs) Fs Gs i h = go (conclusion ax th A P Fs x) (conclusion-formula Fs x) (λ F. after-formulas xs (Fs ++ F ∷ []) Gs) h
    where
      go : (o : Option Formula) → ((F : Formula) → o ≡ Some F → IsFormula A F) → ((F : Formula) → Each (IsFormula A) (Fs ++ F ∷ []) → conclusions_after ax th A P xs (Fs ++ F ∷ []) ≡ Some Gs → Each (IsFormula A) Gs) → and_conclusions (conclusions_after ax th A P xs) Fs o ≡ Some Gs → Each (IsFormula A) Gs
      go None one ih k = cc
      go (Some F) one ih k = ih F (Each-push (IsFormula A) Fs F i (one F refl)) k

  pub conclusions-formulas : (steps : List Object) (Fs : List Formula) → conclusions ax th A P steps ≡ Some Fs → Each (IsFormula A) Fs
  conclusions-formulas steps Fs h = after-formulas steps [] Fs tt h
