-- What a caller cites: on formulas, substitution in an object is substitution in a formula.
use Rattle.std.proofs.Common.{◌≡◌, refl, ap, ap₂}
use Rattle.mw_model.specs.Terms.Object.{Object, symbol, list2, list3}
use Rattle.mw_model.specs.Terms.Term.{Formula, Equal, Not, Or, formula_object}
use Rattle.mw_model.specs.Laws.Rules.{substitute_object, substitute_formula_object}

-- for every object that takes the place of the substitution
pub substitute_object-formula : (s : Object) (F : Formula) → substitute_object s (formula_object F) ≡ substitute_formula_object s (formula_object F)
substitute_object-formula s (Equal a b) = refl
substitute_object-formula s (Not F) = ap (list2 (symbol "PNOT*")) (substitute_object-formula s F)
substitute_object-formula s (Or F G) = ap₂ (list3 (symbol "POR*")) (substitute_object-formula s F) (substitute_object-formula s G)
