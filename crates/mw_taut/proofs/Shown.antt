-- An object that a formula is read from is that formula's.
use Rattle.std.proofs.Common.{◌≡◌, true, Option, Some, None, refl, sym, ap, ◌∙◌, is_some}
use Rattle.mw_model.specs.Terms.Object.{Object}
use Rattle.mw_model.specs.Terms.Term.{Formula, formula_object, ArityTable, is_formula}
use Rattle.mw_model.specs.Terms.Reading.{formula_of, formula_under, that}
use Rattle.mw_model.specs.Laws.Rules.{is_formula_object}
use Rattle.mw_model.proofs.ReadBack.{when_some, formula_back}

pub shown : (A : ArityTable) (x : Object) (F : Formula) → formula_under A x ≡ Some F → (x ≡ formula_object F) × (is_formula A F ≡ true)
shown A x F e = go (formula_of x) (λ G. formula_back x G) e
  where
    go : (o : Option Formula) → ((G : Formula) → o ≡ Some G → formula_object G ≡ x) → that (is_formula A) o ≡ Some F → (x ≡ formula_object F) × (is_formula A F ≡ true)
    go None back h = cc
    go (Some G) back h =
        let p = when_some (is_formula A G) (Some G) F h in
        let same : G ≡ F = only p.1 in
        (sym (back F p.1), ap (is_formula A) (sym same) ∙ p.0)
      where
        only : Some G ≡ Some F → G ≡ F
        only i = cc

pub some_shown : (A : ArityTable) (x : Object) → is_formula_object A x ≡ true → (F : Formula) × (x ≡ formula_object F) × (is_formula A F ≡ true)
some_shown A x e = go (formula_under A x) (shown A x) e
  where
    go : (o : Option Formula) → ((F : Formula) → o ≡ Some F → (x ≡ formula_object F) × (is_formula A F ≡ true)) → is_some o ≡ true → (F : Formula) × (x ≡ formula_object F) × (is_formula A F ≡ true)
    go None all h = cc
    go (Some F) all h = let p = all F refl in (F, p.0, p.1)
