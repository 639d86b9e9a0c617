-- The members of lists, and the conclusions of subproofs.
use Rattle.std.specs.Prelude.{List, [], ◌∷◌}
use Rattle.mw_model.specs.Terms.Object.{Object, Natural, Symbol, Pair, second_of}

abbrev pub members_in : Object → List Object
members_in (Pair a r) = a ∷ members_in r
members_in (Natural n) = []
members_in (Symbol s) = []

abbrev pub conclusions_in : Object → List Object
conclusions_in (Pair p ps) = second_of p ∷ conclusions_in ps
conclusions_in (Natural n) = []
conclusions_in (Symbol s) = []
