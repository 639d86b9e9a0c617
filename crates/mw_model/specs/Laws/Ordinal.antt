-- The ordinals below epsilon-zero: naturals, and ((e . c) . r) for omega to the e times c, and then r.
use Rattle.std.specs.Prelude.{ℕ, Bool, true, false, cond, not, ◌&&◌, ltb}
use Rattle.mw_model.specs.Terms.Object.{Object, Natural, Symbol, Pair, NIL, same_object, car, cdr}
use Rattle.mw_model.specs.Values.Primitive.{number, is_natural}

-- an object that is not a pair and has the number n, against an object
abbrev pub is_atom_below : ℕ → Object → Bool
is_atom_below n (Pair q s) = true
is_atom_below n (Natural m) = ltb n m
is_atom_below n (Symbol x) = ltb n 0

-- by the exponents where they differ, else by the coefficients where they differ, else by the rests
abbrev pub in_turn : (same_exponent below_exponent same_coefficient below_coefficient below_rest : Bool) → Bool
in_turn se be sc bc br = cond se (cond sc br bc) be

-- A pair with the leading term (e . c), against an object. The tests say how e and the rest compare.
abbrev pub is_pair_below : (Object → Bool) → Object → Object → (Object → Bool) → Object → Bool
is_pair_below e_below e c rest_below (Pair q s) =
    in_turn (same_object e (car q)) (e_below (car q)) (same_object c (cdr q)) (ltb (number c) (number (cdr q))) (rest_below s)
is_pair_below e_below e c rest_below _ = false

-- The order, on all objects: an object that is not a pair is below each pair; pairs compare by car of car, cdr of car and cdr;
-- others compare as numbers.
abbrev pub is_below : Object → Object → Bool
is_below (Natural n) y = is_atom_below n y
is_below (Symbol x) y = is_atom_below 0 y
is_below (Pair (Pair e c) r) y = is_pair_below (is_below e) e c (is_below r) y
is_below (Pair (Natural n) r) y = is_pair_below (is_atom_below 0) NIL NIL (is_below r) y
is_below (Pair (Symbol x) r) y = is_pair_below (is_atom_below 0) NIL NIL (is_below r) y

-- the leading exponent, where there is one, is below e
abbrev pub leads_below : Object → Object → Bool
leads_below (Pair q s) e = is_below (car q) e
leads_below _ e = true

abbrev pub is_ordinal : Object → Bool
is_ordinal (Natural n) = true
is_ordinal (Symbol x) = false
is_ordinal (Pair (Natural n) r) = false
is_ordinal (Pair (Symbol x) r) = false
is_ordinal (Pair (Pair e c) r) =
    is_ordinal e && (not (same_object e (Natural 0)) && (is_natural c && (ltb 0 (number c) && (is_ordinal r && leads_below r e))))
