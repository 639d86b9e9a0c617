-- The connectives of formulas, as objects.
use Rattle.mw_model.specs.Terms.Object.{Object, symbol, list2, list3}

abbrev pub not_object : Object → Object
not_object a = list2 (symbol "PNOT*") a

abbrev pub or_object : Object → Object → Object
or_object a b = list3 (symbol "POR*") a b
