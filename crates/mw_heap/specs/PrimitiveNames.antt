-- The names of the primitives and of IF.
use Rattle.std.specs.Prelude.{ℕ, cond, List, [], ◌∷◌, Option, Some, None, codes, option_map}
use Rattle.mw_model.specs.Terms.Object.{Name, named, same_bytes, same_name}
use Rattle.mw_model.specs.Values.Primitive.{Profile, Primitive, Equality, IsPair, Cons, Car, Cdr, IsSymbol, SymbolLess, IsNatural, Less, Plus, Minus, Times, primitive_named}
use Rattle.mw_heap.specs.declared.vocabulary.primitive.Primitive.{Primitive as Word}
use Rattle.mw_heap.specs.declared.vocabulary.primitive.Primitive.TheVariants as word

abbrev pub primitive_bytes : Word → List ℕ
primitive_bytes word.If = codes "IF"
primitive_bytes word.Equal = codes "EQUAL"
primitive_bytes word.Consp = codes "CONSP"
primitive_bytes word.Cons = codes "CONS"
primitive_bytes word.Car = codes "CAR"
primitive_bytes word.Cdr = codes "CDR"
primitive_bytes word.Symbolp = codes "SYMBOLP"
primitive_bytes word.SymbolLess = codes "SYMBOL-<"
primitive_bytes word.Natp = codes "NATP"
primitive_bytes word.Less = codes "<"
primitive_bytes word.Plus = codes "+"
primitive_bytes word.Minus = codes "-"
primitive_bytes word.Times = codes "*"

abbrev pub word_of : Primitive → Word
word_of Equality = word.Equal
word_of IsPair = word.Consp
word_of Cons = word.Cons
word_of Car = word.Car
word_of Cdr = word.Cdr
word_of IsSymbol = word.Symbolp
word_of SymbolLess = word.SymbolLess
word_of IsNatural = word.Natp
word_of Less = word.Less
word_of Plus = word.Plus
word_of Minus = word.Minus
word_of Times = word.Times

-- IF, or the primitive of this name that the profile has
abbrev pub word_named : Profile → Name → Option Word
word_named P f = cond (same_name (named "IF") f) (Some word.If) (option_map word_of (primitive_named P f))

-- the first of the words that has these bytes
abbrev pub first_named : List Word → List ℕ → Option Word
first_named [] bytes = None
first_named (w ∷ ws) bytes = cond (same_bytes (primitive_bytes w) bytes) (Some w) (first_named ws bytes)
