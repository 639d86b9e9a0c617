-- The axioms of the primitives.
use Rattle.std.specs.Prelude.{List, [], ◌∷◌}
use Rattle.mw_model.specs.Terms.Object.{Natural, NIL, T}
use Rattle.mw_model.specs.Terms.Term.{Term, Constant, If, Formula, Equal, Not, Or}
use Rattle.mw_model.specs.Values.Primitive.{Profile, One, Two}
use Rattle.mw_model.specs.Events.Expansion.{car_term, cdr_term}
use Rattle.mw_model.specs.Events.Writing.{var, call}

infix 30 ◌≈◌
infix 30 ◌≉◌
infixr 20 ◌or◌
-- (pequal* a b), (pnot* (pequal* a b)), (por* f g)
abbrev pub ◌≈◌ : Term → Term → Formula
a ≈ b = Equal a b

abbrev pub ◌≉◌ : Term → Term → Formula
a ≉ b = Not (Equal a b)

abbrev pub ◌or◌ : Formula → Formula → Formula
f or g = Or f g

abbrev x : Term
x = var "X"

abbrev y : Term
y = var "Y"

abbrev z : Term
z = var "Z"

abbrev a : Term
a = var "A"

abbrev b : Term
b = var "B"

abbrev c : Term
c = var "C"

abbrev x1 : Term
x1 = var "X1"

abbrev x2 : Term
x2 = var "X2"

abbrev y1 : Term
y1 = var "Y1"

abbrev y2 : Term
y2 = var "Y2"

abbrev quote_t : Term
quote_t = Constant T

abbrev quote_nil : Term
quote_nil = Constant NIL

abbrev quote_0 : Term
quote_0 = Constant (Natural 0)

abbrev quote_1 : Term
quote_1 = Constant (Natural 1)

abbrev consp : Term → Term
consp p = call "CONSP" (p ∷ [])

abbrev symbolp : Term → Term
symbolp p = call "SYMBOLP" (p ∷ [])

abbrev natp : Term → Term
natp p = call "NATP" (p ∷ [])

abbrev equal : Term → Term → Term
equal p q = call "EQUAL" (p ∷ q ∷ [])

abbrev cons : Term → Term → Term
cons p q = call "CONS" (p ∷ q ∷ [])

abbrev symbol_less : Term → Term → Term
symbol_less p q = call "SYMBOL-<" (p ∷ q ∷ [])

abbrev less : Term → Term → Term
less p q = call "<" (p ∷ q ∷ [])

abbrev plus : Term → Term → Term
plus p q = call "+" (p ∷ q ∷ [])

abbrev minus : Term → Term → Term
minus p q = call "-" (p ∷ q ∷ [])

abbrev times : Term → Term → Term
times p q = call "*" (p ∷ q ∷ [])

abbrev pub axiom_1 : Formula
axiom_1 = x ≈ x

abbrev pub axiom_2 : Formula
axiom_2 = x1 ≉ y1 or x2 ≉ y2 or x1 ≉ x2 or y1 ≈ y2

abbrev pub axiom_3 : Formula
axiom_3 = quote_t ≉ quote_nil

abbrev pub axiom_4 : Formula
axiom_4 = x ≉ y or equal x y ≈ quote_t

abbrev pub axiom_5 : Formula
axiom_5 = x ≈ y or equal x y ≈ quote_nil

abbrev pub axiom_6 : Formula
axiom_6 = x ≉ quote_nil or If x y z ≈ z

abbrev pub axiom_7 : Formula
axiom_7 = x ≈ quote_nil or If x y z ≈ y

abbrev pub axiom_8 : Formula
axiom_8 = consp (cons x y) ≈ quote_t

abbrev pub axiom_9 : Formula
axiom_9 = car_term (cons x y) ≈ x

abbrev pub axiom_10 : Formula
axiom_10 = cdr_term (cons x y) ≈ y

abbrev pub axiom_11 : Formula
axiom_11 = consp x ≈ quote_t or consp x ≈ quote_nil

abbrev pub axiom_12 : Formula
axiom_12 = consp x ≈ quote_t or car_term x ≈ quote_nil

abbrev pub axiom_13 : Formula
axiom_13 = consp x ≈ quote_t or cdr_term x ≈ quote_nil

abbrev pub axiom_14 : Formula
axiom_14 = consp x ≈ quote_nil or cons (car_term x) (cdr_term x) ≈ x

abbrev pub axiom_15 : Formula
axiom_15 = symbolp x ≈ quote_t or symbolp x ≈ quote_nil

abbrev pub axiom_16 : Formula
axiom_16 = symbol_less x y ≈ quote_t or symbol_less x y ≈ quote_nil

abbrev pub axiom_17 : Formula
axiom_17 = symbol_less x x ≈ quote_nil

abbrev pub axiom_18 : Formula
axiom_18 = symbol_less x y ≉ quote_t or symbol_less y x ≈ quote_nil

abbrev pub axiom_19 : Formula
axiom_19 = symbol_less x y ≉ quote_t or symbol_less y z ≉ quote_t or symbol_less x z ≈ quote_t

abbrev pub axiom_20 : Formula
axiom_20 = symbolp x ≈ quote_nil or symbolp y ≈ quote_nil or symbol_less x y ≈ quote_t or symbol_less y x ≈ quote_t or x ≈ y

abbrev pub axiom_21 : Formula
axiom_21 = symbolp x ≈ quote_t or symbol_less x y ≈ symbol_less quote_nil y

abbrev pub axiom_22 : Formula
axiom_22 = symbolp y ≈ quote_t or symbol_less x y ≈ symbol_less x quote_nil

abbrev pub axiom_23 : Formula
axiom_23 = symbolp x ≈ quote_nil or consp x ≈ quote_nil

abbrev pub axiom_24 : Formula
axiom_24 = symbolp x ≈ quote_nil or natp x ≈ quote_nil

abbrev pub axiom_25 : Formula
axiom_25 = natp x ≈ quote_nil or consp x ≈ quote_nil

abbrev pub axiom_26 : Formula
axiom_26 = natp x ≈ quote_t or natp x ≈ quote_nil

abbrev pub axiom_27 : Formula
axiom_27 = natp (plus a b) ≈ quote_t

abbrev pub axiom_28 : Formula
axiom_28 = plus a b ≈ plus b a

abbrev pub axiom_29 : Formula
axiom_29 = plus (plus a b) c ≈ plus a (plus b c)

abbrev pub axiom_30 : Formula
axiom_30 = natp a ≈ quote_nil or plus a quote_0 ≈ a

abbrev pub axiom_31 : Formula
axiom_31 = natp a ≈ quote_t or plus a b ≈ plus quote_0 b

abbrev pub axiom_32 : Formula
axiom_32 = less a b ≈ quote_t or less a b ≈ quote_nil

abbrev pub axiom_33 : Formula
axiom_33 = less a a ≈ quote_nil

abbrev pub axiom_34 : Formula
axiom_34 = less a b ≉ quote_t or less b c ≉ quote_t or less a c ≈ quote_t

abbrev pub axiom_35 : Formula
axiom_35 = natp a ≈ quote_nil or natp b ≈ quote_nil or less a b ≈ quote_t or less b a ≈ quote_t or a ≈ b

abbrev pub axiom_36 : Formula
axiom_36 = less a quote_0 ≈ quote_nil

abbrev pub axiom_37 : Formula
axiom_37 = natp a ≈ quote_nil or a ≈ quote_0 or less quote_0 a ≈ quote_t

abbrev pub axiom_38 : Formula
axiom_38 = natp a ≈ quote_t or less a b ≈ less quote_0 b

abbrev pub axiom_39 : Formula
axiom_39 = natp b ≈ quote_t or less a b ≈ quote_nil

abbrev pub axiom_40 : Formula
axiom_40 = less (plus a b) (plus a c) ≈ less b c

abbrev pub axiom_41 : Formula
axiom_41 = less a b ≉ quote_t or less b (plus a quote_1) ≈ quote_nil

abbrev pub axiom_42 : Formula
axiom_42 = less a (plus a quote_1) ≈ quote_t

abbrev pub axiom_43 : Formula
axiom_43 = natp (minus a b) ≈ quote_t

abbrev pub axiom_44 : Formula
axiom_44 = natp a ≈ quote_t or minus a b ≈ quote_0

abbrev pub axiom_45 : Formula
axiom_45 = natp b ≈ quote_t or minus a b ≈ minus a quote_0

abbrev pub axiom_46 : Formula
axiom_46 = natp a ≈ quote_nil or minus a quote_0 ≈ a

abbrev pub axiom_47 : Formula
axiom_47 = minus a a ≈ quote_0

abbrev pub axiom_48 : Formula
axiom_48 = less b a ≈ quote_t or minus a b ≈ quote_0

abbrev pub axiom_49 : Formula
axiom_49 = less b a ≉ quote_t or plus b (minus a b) ≈ a

abbrev pub axiom_50 : Formula
axiom_50 = minus (plus a b) a ≈ plus quote_0 b

abbrev pub axiom_51 : Formula
axiom_51 = minus (minus a b) c ≈ minus a (plus b c)

abbrev pub axiom_52 : Formula
axiom_52 = less a (minus b c) ≈ less (plus a c) b

abbrev pub axiom_53 : Formula
axiom_53 = natp x ≈ quote_t or symbolp x ≈ quote_t or consp x ≈ quote_t

abbrev pub axiom_54 : Formula
axiom_54 = natp (times a b) ≈ quote_t

abbrev pub axiom_55 : Formula
axiom_55 = times a b ≈ times b a

abbrev pub axiom_56 : Formula
axiom_56 = times (times a b) c ≈ times a (times b c)

abbrev pub axiom_57 : Formula
axiom_57 = times a (plus b c) ≈ plus (times a b) (times a c)

abbrev pub axiom_58 : Formula
axiom_58 = times a quote_0 ≈ quote_0

abbrev pub axiom_59 : Formula
axiom_59 = natp a ≈ quote_nil or times a quote_1 ≈ a

abbrev pub axiom_60 : Formula
axiom_60 = natp a ≈ quote_t or times a b ≈ quote_0

abbrev pub product_axioms : Profile → List Formula
product_axioms One = []
product_axioms Two = axiom_54 ∷ axiom_55 ∷ axiom_56 ∷ axiom_57 ∷ axiom_58 ∷ axiom_59 ∷ axiom_60 ∷ []

abbrev pub primitive_axioms : Profile → List Formula
primitive_axioms P =
    axiom_1 ∷ axiom_2 ∷ axiom_3 ∷ axiom_4 ∷ axiom_5 ∷ axiom_6 ∷ axiom_7 ∷ axiom_8 ∷ axiom_9 ∷ axiom_10 ∷ axiom_11 ∷ axiom_12 ∷ axiom_13 ∷ axiom_14 ∷ axiom_15 ∷ axiom_16 ∷ axiom_17 ∷ axiom_18 ∷ axiom_19 ∷ axiom_20 ∷ axiom_21 ∷ axiom_22 ∷ axiom_23 ∷ axiom_24 ∷ axiom_25 ∷ axiom_26 ∷ axiom_27 ∷ axiom_28 ∷ axiom_29 ∷ axiom_30 ∷ axiom_31 ∷ axiom_32 ∷ axiom_33 ∷ axiom_34 ∷ axiom_35 ∷ axiom_36 ∷ axiom_37 ∷ axiom_38 ∷ axiom_39 ∷ axiom_40 ∷ axiom_41 ∷ axiom_42 ∷ axiom_43 ∷ axiom_44 ∷ axiom_45 ∷ axiom_46 ∷ axiom_47 ∷ axiom_48 ∷ axiom_49 ∷ axiom_50 ∷ axiom_51 ∷ axiom_52 ∷ axiom_53 ∷ product_axioms P
