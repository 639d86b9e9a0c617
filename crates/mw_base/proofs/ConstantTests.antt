-- The tests of constants by their parts.
use Rattle.std.proofs.Common.{◌≡◌, Bool, true, false, ◌&&◌, refl}
use Rattle.mw_model.specs.Terms.Object.{Object, Natural, Symbol, Pair, symbol, same_object, NIL, car, second_of, third_of}
use Rattle.mw_model.specs.Values.Primitive.{first_value, second_value}
use Rattle.mw_model.specs.Laws.Rules.{is_constant_object, unquoted, third_value}

and-false : (b : Bool) → (b && false) ≡ false
and-false true = refl
and-false false = refl

pub is_constant_object_at : (h c e : Object) → (same_object h (symbol "QUOTE") && same_object e NIL) ≡ is_constant_object (Pair h (Pair c e))
is_constant_object_at h c (Natural n) = and-false (same_object h (symbol "QUOTE"))
is_constant_object_at h c (Symbol s) = refl
is_constant_object_at h c (Pair a b) = and-false (same_object h (symbol "QUOTE"))

-- the values of a list of constants, by their place
pub first_value-unquoted : (ts : Object) → first_value (unquoted ts) ≡ second_of (car ts)
first_value-unquoted (Natural n) = refl
first_value-unquoted (Symbol s) = refl
first_value-unquoted (Pair a r) = refl

pub second_value-unquoted : (ts : Object) → second_value (unquoted ts) ≡ second_of (second_of ts)
second_value-unquoted (Natural n) = refl
second_value-unquoted (Symbol s) = refl
second_value-unquoted (Pair a r) = first_value-unquoted r

pub third_value-unquoted : (ts : Object) → third_value (unquoted ts) ≡ second_of (third_of ts)
third_value-unquoted (Natural n) = refl
third_value-unquoted (Symbol s) = refl
third_value-unquoted (Pair a r) = second_value-unquoted r
