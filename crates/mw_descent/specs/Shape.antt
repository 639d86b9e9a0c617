-- What makes ((e . c) . r) an ordinal: omega to the e times c, and then r, is in Cantor's normal form.
use Rattle.std.specs.Prelude.{◌≡◌, ◌≢◌, ◌<◌, true}
use Rattle.mw_model.specs.Terms.Object.{Object, Natural, car}
use Rattle.mw_model.specs.Values.Primitive.{number, is_pair, is_natural}
use Rattle.mw_model.specs.Laws.Ordinal.{is_ordinal, is_below}

pub record IsNormal (e c r : Object) : Type 0 where
  -- the exponent is an ordinal, and not 0
  pub exponent : is_ordinal e ≡ true
  pub not_zero : e ≢ Natural 0
  -- the coefficient is a positive natural
  pub natural : is_natural c ≡ true
  pub positive : 0 < number c
  -- the rest is an ordinal, and its own leading exponent, where it has one, is below e
  pub rest : is_ordinal r ≡ true
  pub falls : is_pair r ≡ true → is_below (car (car r)) e ≡ true
