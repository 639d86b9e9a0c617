-- What a formula is, by its object.
use Rattle.std.proofs.Common.{◌≡◌, false, refl, ap}
use Rattle.std.proofs.lemmas.Bool.{both_ways}
use Rattle.mw_model.specs.Terms.Object.{Object, symbol, same_object, car, second_of, third_of}
use Rattle.mw_model.specs.Terms.Term.{Formula, Equal, Not as Denial, Or as Either, formula_object}
use Rattle.mw_model.proofs.Names.{same_object-from}
use Rattle.mw_taut.specs.Connectives.{not_object, or_object}
use Rattle.mw_taut.specs.Meaning.{IsEquation}

pub not_shape : (X : Formula) (o : Object) → formula_object X ≡ not_object o → (Y : Formula) × (X ≡ Denial Y) × (formula_object Y ≡ o)
not_shape (Equal a b) o e = cc
not_shape (Denial Y) o e = (Y, refl, ap second_of e)
not_shape (Either F G) o e = cc

pub or_shape : (X : Formula) (o u : Object) → formula_object X ≡ or_object o u → (Y Z : Formula) × (X ≡ Either Y Z) × (formula_object Y ≡ o) × (formula_object Z ≡ u)
or_shape (Equal a b) o u e = absurd (both_ways (same_object (symbol "PEQUAL*") (symbol "POR*")) refl (same_object-from _ _ (ap car e)))
or_shape (Denial Y) o u e = cc
or_shape (Either Y Z) o u e = (Y, Z, refl, ap second_of e, ap third_of e)

pub equation_shape : (X : Formula) → ((a : Object) → same_object (formula_object X) (not_object a) ≡ false) → ((a b : Object) → same_object (formula_object X) (or_object a b) ≡ false) → IsEquation X
equation_shape (Equal a b) h k = tt
equation_shape (Denial Y) h k = absurd (both_ways (same_object (formula_object (Denial Y)) (not_object (formula_object Y))) (h (formula_object Y)) (same_object-from (formula_object (Denial Y)) (formula_object (Denial Y)) refl))
equation_shape (Either Y Z) h k = absurd (both_ways (same_object (formula_object (Either Y Z)) (or_object (formula_object Y) (formula_object Z))) (k (formula_object Y) (formula_object Z)) (same_object-from (formula_object (Either Y Z)) (formula_object (Either Y Z)) refl))
