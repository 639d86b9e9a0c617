-- The primitive functions of a profile, and their values.
use Rattle.std.specs.Prelude.{ℕ, ◌+◌, ◌-◌, ◌*◌, ltb, cond, List, [], ◌∷◌, Option, Some, None, Bool, true, false, find}
use Rattle.std.specs.Option.{option_or}
use Rattle.mw_model.specs.Terms.Object.{Name, Object, Natural, Symbol, Pair, named, same_name, same_object, is_before_bytes, nil_name, NIL, truth_of, car, cdr}
use Rattle.mw_model.specs.Terms.Term.{ArityTable}

-- the second profile has a product
pub data Profile : Type 0 where
  One Two : Profile

-- IF, the first primitive, has a form of its own among terms, since it is not strict
pub data Primitive : Type 0 where
  Equality IsPair Cons Car Cdr IsSymbol SymbolLess IsNatural Less Plus Minus Times : Primitive

abbrev pub primitive_name : Primitive → Name
primitive_name Equality = named "EQUAL"
primitive_name IsPair = named "CONSP"
primitive_name Cons = named "CONS"
primitive_name Car = named "CAR"
primitive_name Cdr = named "CDR"
primitive_name IsSymbol = named "SYMBOLP"
primitive_name SymbolLess = named "SYMBOL-<"
primitive_name IsNatural = named "NATP"
primitive_name Less = named "<"
primitive_name Plus = named "+"
primitive_name Minus = named "-"
primitive_name Times = named "*"

abbrev pub primitive_arity : Primitive → ℕ
primitive_arity IsPair = 1
primitive_arity Car = 1
primitive_arity Cdr = 1
primitive_arity IsSymbol = 1
primitive_arity IsNatural = 1
primitive_arity _ = 2

-- those of both profiles, in the order in which they are added to the arity table after IF
abbrev pub shared_primitives : List Primitive
shared_primitives = Equality ∷ IsPair ∷ Cons ∷ Car ∷ Cdr ∷ IsSymbol ∷ SymbolLess ∷ IsNatural ∷ Less ∷ Plus ∷ Minus ∷ []

-- the thirteenth, in the profile that has one
abbrev pub product : Profile → Option Primitive
product One = None
product Two = Some Times

abbrev pub primitive_among : List Primitive → Name → Option Primitive
primitive_among ps f = find (λ p. same_name (primitive_name p) f) ps

abbrev pub or_product : Profile → Name → Option Primitive → Option Primitive
or_product P f p = option_or p (cond (same_name (primitive_name Times) f) (product P) None)

-- the primitive of this name, where the profile has one
abbrev pub primitive_named : Profile → Name → Option Primitive
primitive_named P f = or_product P f (primitive_among shared_primitives f)

abbrev pub add_primitives : List Primitive → ArityTable → ArityTable
add_primitives [] A = A
add_primitives (p ∷ ps) A = add_primitives ps ((primitive_name p, primitive_arity p) ∷ A)

abbrev pub add_product : Option Primitive → ArityTable → ArityTable
add_product None A = A
add_product (Some p) A = (primitive_name p, primitive_arity p) ∷ A

abbrev pub primitive_arities : Profile → ArityTable
primitive_arities P = add_product (product P) (add_primitives shared_primitives ((named "IF", 3) ∷ []))

abbrev pub is_pair : Object → Bool
is_pair (Pair a b) = true
is_pair _ = false

abbrev pub is_symbol : Object → Bool
is_symbol (Symbol x) = true
is_symbol _ = false

abbrev pub is_natural : Object → Bool
is_natural (Natural n) = true
is_natural _ = false

-- an object that is not a natural counts as 0, one that is not a symbol as NIL
abbrev pub number : Object → ℕ
number (Natural n) = n
number _ = 0

abbrev pub name_of : Object → Name
name_of (Symbol x) = x
name_of _ = nil_name

abbrev pub apply_to : Primitive → Object → Object → Object
apply_to Equality a b = truth_of (same_object a b)
apply_to IsPair a b = truth_of (is_pair a)
apply_to Cons a b = Pair a b
apply_to Car a b = car a
apply_to Cdr a b = cdr a
apply_to IsSymbol a b = truth_of (is_symbol a)
apply_to SymbolLess a b = truth_of (is_before_bytes (name_of a).bytes (name_of b).bytes)
apply_to IsNatural a b = truth_of (is_natural a)
apply_to Less a b = truth_of (ltb (number a) (number b))
apply_to Plus a b = Natural (number a + number b)
apply_to Minus a b = Natural (number a - number b)
apply_to Times a b = Natural (number a * number b)

-- the members of a list of values; NIL where it is too short
abbrev pub first_value : List Object → Object
first_value [] = NIL
first_value (v ∷ vs) = v

abbrev pub second_value : List Object → Object
second_value [] = NIL
second_value (v ∷ vs) = first_value vs

-- the value of a primitive
abbrev pub apply : Primitive → List Object → Object
apply p vs = apply_to p (first_value vs) (second_value vs)

-- the value of IF
abbrev pub choose : Object → Object → Object → Object
choose a b c = cond (same_object a NIL) c b
