-- Formulas under a table: those that objects stand for, and those with numbers.
use Rattle.std.proofs.Common.{◌≡◌, ℕ, zero, suc, Bool, true, false, List, [], ◌∷◌, ◌++◌, map, Option, Some, None, refl, sym, ap, ap₂, ◌∙◌, subst, is_some}
use Rattle.std.proofs.lemmas.List.Elements.{All-head, All-tail}
use Rattle.mw_model.specs.Terms.Object.{Object}
use Rattle.mw_model.specs.Terms.Term.{Formula, ArityTable, formula_object, is_formula, IsFormula}
use Rattle.mw_model.specs.Values.Truth.{Each}
use Rattle.mw_model.specs.Terms.Reading.{that, when, formula_of}
use Rattle.mw_model.specs.Laws.Rules.{is_formula_object}
use Rattle.mw_model.proofs.Read.{formula_read}
use Rattle.mw_model.proofs.ReadBack.{some_one, and_more-back, formula_back}
use Rattle.mw_commands.specs.Commands.Log.{formula_numbered, formulas_numbered, formulas_at}
use Rattle.mw_heap.specs.Objects.{object_at, IsIn}
use Rattle.mw_flat.specs.Collecting.{AreFormulasIn}

pub present-when : {X : Type 0} (b : Bool) (y : X) → is_some (when b (Some y)) ≡ true → b ≡ true
present-when true y h = refl
present-when false y h = cc

pub absent-when : {X : Type 0} (b : Bool) (y : X) → is_some (when b (Some y)) ≡ false → b ≡ false
absent-when true y h = cc
absent-when false y h = refl

module _ (A : ArityTable) where
  pub formula-object : (F : Formula) → IsFormula A F → is_formula_object A (formula_object F) ≡ true
  formula-object F i = ap (λ o. is_some (that (is_formula A) o)) (formula_read A F i) ∙ ap (λ b. is_some (when b (Some F))) i

  -- what the object of a formula stands for
  pub formula-named : (x : Object) → is_formula_object A x ≡ true → (F : Formula) × IsFormula A F × (formula_of x ≡ Some F) × (x ≡ formula_object F)
  formula-named x h = go (formula_of x) refl h
    where
      go : (o : Option Formula) → formula_of x ≡ o → is_some (that (is_formula A) o) ≡ true → (F : Formula) × IsFormula A F × (formula_of x ≡ Some F) × (x ≡ formula_object F)
      go None e k = cc
      go (Some F) e k = (F, present-when (is_formula A F) F k, e, sym (formula_back x F e))

  pub formulas-named : (os : List Object) (rs : List ℕ) → AreFormulasIn os A rs → (Fs : List Formula) × Each (IsFormula A) Fs × (map (object_at os) rs ≡ map formula_object Fs)
  formulas-named os [] h = ([], tt, refl)
  formulas-named os (r ∷ rs) h =
      let first = formula-named (object_at os r) (All-head (λ q. IsIn os q × (is_formula_object A (object_at os q) ≡ true)) r rs h).1 in
      let rest = formulas-named os rs (All-tail (λ q. IsIn os q × (is_formula_object A (object_at os q) ≡ true)) r rs h) in
      (first.0 ∷ rest.0, (first.1, rest.1), ap₂ ◌∷◌ first.3 rest.2)

-- what holds of each formula holds of those with numbers
module _ (P : Formula → Type 0) where
  pub Each-push : (Fs : List Formula) (F : Formula) → Each P Fs → P F → Each P (Fs ++ F ∷ [])
  Each-push [] F h p = (p, tt)
  Each-push (G ∷ Fs) F h p = (h.0, Each-push Fs F h.1 p)

  numbered-each : (Fs : List Formula) (n : ℕ) (F : Formula) → Each P Fs → formula_numbered Fs n ≡ Some F → P F
  numbered-each Fs zero F h e = cc
  numbered-each [] (suc n) F h e = cc
  numbered-each (G ∷ Fs) (suc zero) F h e = subst P (some_one e) h.0
  numbered-each (G ∷ Fs) (suc (suc n)) F h e = numbered-each Fs (suc n) F h.1 e

  all-each : (Fs : List Formula) (ns : List ℕ) (Gs : List Formula) → Each P Fs → formulas_numbered Fs ns ≡ Some Gs → Each P Gs
  all-each Fs [] Gs h e = subst (Each P) (some_one e) tt
  all-each Fs (n ∷ ns) Gs h e =
      let q = and_more-back (formula_numbered Fs n) (formulas_numbered Fs ns) Gs e in
      subst (Each P) (sym q.4) (numbered-each Fs n q.0 h q.2, all-each Fs ns q.1 h q.3)

  pub each-at : (Fs : List Formula) (o : Option (List ℕ)) (Gs : List Formula) → Each P Fs → formulas_at Fs o ≡ Some Gs → Each P Gs
  each-at Fs None Gs h e = cc
  each-at Fs (Some ns) Gs h e = all-each Fs ns Gs h e
