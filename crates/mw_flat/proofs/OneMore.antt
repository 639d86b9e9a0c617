-- The steps that were collected, with one step more.
use Rattle.std.proofs.Common.{◌≡◌, ℕ, ◌+◌, Bool, true, false, List, [], ◌∷◌, ◌++◌, map, Option, Some, None, option_map, refl, sym, ap, ◌∙◌, subst, arith, length-append}
use Rattle.std.proofs.lemmas.List.{map-append}
use Rattle.mw_model.specs.Terms.Object.{Object}
use Rattle.mw_model.specs.Terms.Term.{Formula, ArityTable, formula_object, IsFormula}
use Rattle.mw_model.specs.Values.Truth.{Each}
use Rattle.mw_model.specs.Values.Primitive.{Profile}
use Rattle.mw_model.specs.Values.Definition.{arity_table}
use Rattle.mw_model.specs.Events.Theory.{Theory}
use Rattle.mw_model.specs.Laws.Rules.{is_formula_object}
use Rattle.mw_commands.specs.Commands.Log.{conclusion, conclusions}
use Rattle.mw_heap.specs.Objects.{object_at}
use Rattle.mw_flat.specs.Collecting.{AreConclusions}
use Rattle.mw_flat.specs.Steps.{IsConclusion}
use Rattle.mw_flat.specs.Going.{Going, theory_of, HasCollected}
use Rattle.mw_flat.proofs.Formulas.{formula-object}
use Rattle.mw_flat.proofs.Conclusions.{with_step, conclusions-more, conclusion-formula, conclusions-formulas}

module _ (os : List Object) (rs : List ℕ) where
  -- those before are not all good
  stays-bad : (ax th : Object) (A : ArityTable) (P : Profile) (x : Object) (good : Bool) (o : Option (List Formula)) → good ≡ false → AreConclusions os good rs o → with_step ax th A P o x ≡ None
  stays-bad ax th A P x good None b h = refl
  stays-bad ax th A P x good (Some Fs) b h = cc (b, h.0)

  module _ (ax th : Object) (A : ArityTable) (P : Profile) (x : Object) (good : Bool) where
    -- the new step is good, or not
    abbrev Judges : Option ℕ → Option (List Formula) → Type 0
    Judges c o = (Fs : List Formula) → o ≡ Some Fs → map (object_at os) rs ≡ map formula_object Fs → IsConclusion os c (conclusion ax th A P Fs x)

    one-good : (r : ℕ) (o : Option (List Formula)) → AreConclusions os good rs o → Judges (Some r) o → AreConclusions os good (rs ++ r ∷ []) (with_step ax th A P o x)
    one-good r None h k = h
    one-good r (Some Fs) h k = go (conclusion ax th A P Fs x) (k Fs refl h.1)
      where
        go : (c : Option Formula) → IsConclusion os (Some r) c → AreConclusions os good (rs ++ r ∷ []) (option_map (λ F. Fs ++ F ∷ []) c)
        go None i = absurd i
        go (Some F) i = (h.0, map-append (object_at os) rs (r ∷ []) ∙ (ap (λ l. l ++ object_at os r ∷ []) h.1 ∙ (ap (λ y. map formula_object Fs ++ y ∷ []) i ∙ sym (map-append formula_object Fs (F ∷ [])))))

    one-bad : (o : Option (List Formula)) → AreConclusions os good rs o → Judges None o → with_step ax th A P o x ≡ None
    one-bad None h k = refl
    one-bad (Some Fs) h k = go (conclusion ax th A P Fs x) (k Fs refl h.1)
      where
        go : (c : Option Formula) → IsConclusion os None c → option_map (λ F. Fs ++ F ∷ []) c ≡ None
        go None i = refl
        go (Some F) i = absurd i

-- the same steps, where nothing of what was collected is another
pub same-collected : (old new : Going) (steps : List Object) → new.objects ≡ old.objects → theory_of new ≡ theory_of old → new.conclusions ≡ old.conclusions → new.good ≡ old.good → new.count ≡ old.count → HasCollected old steps → HasCollected new steps
same-collected old new steps objects theory conclusions_same good count h =
    let then = λ (t : Theory). conclusions t.axioms t.theorems (arity_table t.definitions) t.definitions.profile steps in
    record {
      count = count ∙ h.count;
      conclusions =
          subst (λ t. AreConclusions new.objects new.good new.conclusions (then t)) (sym theory)
          (subst (λ os. AreConclusions os new.good new.conclusions (then (theory_of old))) (sym objects)
          (subst (λ b. AreConclusions old.objects b new.conclusions (then (theory_of old))) (sym good) (subst (λ rs. AreConclusions old.objects old.good rs (then (theory_of old))) (sym conclusions_same) h.conclusions)));
    }

-- what is said of a step x after those that were collected
abbrev pub IsJudged : Going → Object → Option ℕ → Type 0
IsJudged g x c =
    let t = theory_of g in (Fs : List Formula) → Each (IsFormula (arity_table t.definitions)) Fs → map (object_at g.objects) g.conclusions ≡ map formula_object Fs → IsConclusion g.objects c (conclusion t.axioms t.theorems (arity_table t.definitions) t.definitions.profile Fs x)

module _ (old new : Going) (steps : List Object) (x : Object) (theory : theory_of new ≡ theory_of old) (counted : new.count ≡ old.count + 1) (h : HasCollected old steps) where
  -- the conclusions of the steps before, and of them with the new step
  abbrev before : Option (List Formula)
  before = let t = theory_of old in conclusions t.axioms t.theorems (arity_table t.definitions) t.definitions.profile steps

  abbrev then_x : Option (List Formula)
  then_x = let t = theory_of old in with_step t.axioms t.theorems (arity_table t.definitions) t.definitions.profile before x

  with-conclusions : AreConclusions new.objects new.good new.conclusions then_x → HasCollected new (steps ++ x ∷ [])
  with-conclusions k =
      let t = theory_of old in
      record {
        count = omega (arith, counted, h.count, length-append steps (x ∷ []));
        conclusions =
            subst (λ u. AreConclusions new.objects new.good new.conclusions (conclusions u.axioms u.theorems (arity_table u.definitions) u.definitions.profile (steps ++ x ∷ []))) (sym theory)
            (subst (AreConclusions new.objects new.good new.conclusions) (sym (conclusions-more t.axioms t.theorems (arity_table t.definitions) t.definitions.profile steps x)) k);
      }

  with-none : new.good ≡ false → then_x ≡ None → HasCollected new (steps ++ x ∷ [])
  with-none bad none = with-conclusions (subst (AreConclusions new.objects new.good new.conclusions) (sym none) bad)

  -- after steps that are not all good
  pub after-bad : old.good ≡ false → new.good ≡ false → HasCollected new (steps ++ x ∷ [])
  after-bad was bad = let t = theory_of old in with-none bad (stays-bad old.objects old.conclusions t.axioms t.theorems (arity_table t.definitions) t.definitions.profile x old.good before was h.conclusions)

  -- the step is not good
  pub with-bad : IsJudged old x None → new.good ≡ false → HasCollected new (steps ++ x ∷ [])
  with-bad judged bad =
      let t = theory_of old in
      let A = arity_table t.definitions in
      let P = t.definitions.profile in
      with-none bad (one-bad old.objects old.conclusions t.axioms t.theorems A P x old.good before h.conclusions (λ Fs e same. judged Fs (conclusions-formulas t.axioms t.theorems A P steps Fs e) same))

  -- the step is good, and its conclusion is put with the others
  pub with-good : (r : ℕ) → IsJudged old x (Some r) → new.objects ≡ old.objects → new.good ≡ old.good → new.conclusions ≡ old.conclusions ++ r ∷ [] → HasCollected new (steps ++ x ∷ [])
  with-good r judged same_objects same_good added =
      let t = theory_of old in
      let A = arity_table t.definitions in
      let P = t.definitions.profile in
      with-conclusions
      (subst (λ os. AreConclusions os new.good new.conclusions then_x) (sym same_objects)
      (subst (λ b. AreConclusions old.objects b new.conclusions then_x) (sym same_good)
      (subst (λ rs. AreConclusions old.objects old.good rs then_x) (sym added)
      (one-good old.objects old.conclusions t.axioms t.theorems A P x old.good r before h.conclusions (λ Fs e same. judged Fs (conclusions-formulas t.axioms t.theorems A P steps Fs e) same)))))

-- what a step concludes is a formula
pub concluded-formula : (ax th : Object) (A : ArityTable) (P : Profile) (Fs : List Formula) (x : Object) (os : List Object) (r : ℕ) → IsConclusion os (Some r) (conclusion ax th A P Fs x) → is_formula_object A (object_at os r) ≡ true
concluded-formula ax th A P Fs x os r h = go (conclusion ax th A P Fs x) (conclusion-formula ax th A P Fs x) h
  where
    go : (c : Option Formula) → ((F : Formula) → c ≡ Some F → IsFormula A F) → IsConclusion os (Some r) c → is_formula_object A (object_at os r) ≡ true
    go None one i = absurd i
    go (Some F) one i = ap (is_formula_object A) i ∙ formula-object A F (one F refl)
