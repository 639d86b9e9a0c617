-- The leading term of an ordinal, but for that its exponent is an ordinal.
use Rattle.std.specs.Prelude.{Bool, ◌&&◌, not, ltb}
use Rattle.mw_model.specs.Terms.Object.{Object, Natural, same_object}
use Rattle.mw_model.specs.Values.Primitive.{number, is_natural}
use Rattle.mw_model.specs.Laws.Ordinal.{leads_below}

-- a natural other than 0
abbrev pub is_positive : Object → Bool
is_positive c = is_natural c && ltb 0 (number c)

-- (e . c) before the rest r
abbrev pub may_lead : Object → Object → Object → Bool
may_lead e c r = not (same_object e (Natural 0)) && (is_positive c && leads_below r e)
