-- Short forms for terms written out.
use Rattle.std.specs.Prelude.{List, [], ◌∷◌}
use Prim.Native.String.{String}
use Rattle.mw_model.specs.Terms.Object.{named, NIL}
use Rattle.mw_model.specs.Terms.Term.{Term, Terms, Variable, Constant, If, Call, NoTerms, More}
use Rattle.mw_model.specs.Events.Expansion.{car_term, cdr_term}

abbrev pub terms : List Term → Terms
terms [] = NoTerms
terms (t ∷ ts) = More t (terms ts)

abbrev pub var : String → Term
var x = Variable (named x)

-- (f t1 .. tn)
abbrev pub call : String → List Term → Term
call f ts = Call (named f) (terms ts)

-- (and a b)
infixr 40 ◌&◌
abbrev pub ◌&◌ : Term → Term → Term
a & b = If a b (Constant NIL)

abbrev pub first : Term → Term
first a = car_term a

abbrev pub second : Term → Term
second a = car_term (cdr_term a)

abbrev pub third : Term → Term
third a = car_term (cdr_term (cdr_term a))

abbrev pub fourth : Term → Term
fourth a = car_term (cdr_term (cdr_term (cdr_term a)))
