-- On the object of a formula, substitution in terms is substitution in the formula.
use Rattle.std.proofs.Common.{◌≡◌, true, Option, Some, None, refl, ap, ap₂, subst, is_some}
use Rattle.mw_model.specs.Terms.Object.{Object, symbol, list2, list3}
use Rattle.mw_model.specs.Terms.Term.{Formula, Equal, Not, Or, formula_object, ArityTable, is_formula}
use Rattle.mw_model.specs.Terms.Reading.{formula_of, that}
use Rattle.mw_model.specs.Laws.Rules.{is_formula_object, substitute_object, substitute_formula_object}
use Rattle.mw_model.proofs.ReadBack.{formula_back}

pub on_formula : (s : Object) (F : Formula) → substitute_object s (formula_object F) ≡ substitute_formula_object s (formula_object F)
on_formula s (Equal a b) = refl
on_formula s (Not F) = ap (list2 (symbol "PNOT*")) (on_formula s F)
on_formula s (Or F G) = ap₂ (list3 (symbol "POR*")) (on_formula s F) (on_formula s G)

pub substitute_object-formula : (A : ArityTable) (s x : Object) → is_formula_object A x ≡ true → substitute_object s x ≡ substitute_formula_object s x
substitute_object-formula A s x h = go (formula_of x) refl h
  where
    go : (o : Option Formula) → formula_of x ≡ o → is_some (that (is_formula A) o) ≡ true → substitute_object s x ≡ substitute_formula_object s x
    go None e h = cc
    go (Some F) e h = subst (λ y. substitute_object s y ≡ substitute_formula_object s y) (formula_back x F e) (on_formula s F)
