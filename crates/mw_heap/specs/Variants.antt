-- The primitives, profiles and refusals of the program, as those of the logic.
use Rattle.std.specs.Prelude.{ℕ, Option, Some, None}
use Rattle.mw_model.specs.Values.Primitive.{Primitive, Equality, IsPair, Cons, Car, Cdr, IsSymbol, SymbolLess, IsNatural, Less, Plus, Minus, Times, Profile, One, Two}
use Rattle.mw_model.specs.Events.Refusal.{Refusal, RANGE, EVENT, NAME, FORMALS, TERM, FORMULA, VARIABLES, NESTED, COUNT, CONCLUSION, PROOF, NILVALUE, STEPS, OVERFLOW, WITNESS, CLAIM, CHECKER, LONG, PROFILE}
use Rattle.mw_heap.specs.declared.vocabulary.primitive.Primitive.{Primitive as Word}
use Rattle.mw_heap.specs.declared.vocabulary.primitive.Primitive.TheVariants as word
use Rattle.mw_heap.specs.declared.vocabulary.profile.Profile.{Profile as Level}
use Rattle.mw_heap.specs.declared.vocabulary.profile.Profile.TheVariants as level
use Rattle.mw_heap.specs.declared.vocabulary.refusal.Refusal.{Refusal as Reason}
use Rattle.mw_heap.specs.declared.vocabulary.refusal.Refusal.TheVariants as reason

-- IF is no primitive of the logic
abbrev pub primitive_of : Word → Option Primitive
primitive_of word.If = None
primitive_of word.Equal = Some Equality
primitive_of word.Consp = Some IsPair
primitive_of word.Cons = Some Cons
primitive_of word.Car = Some Car
primitive_of word.Cdr = Some Cdr
primitive_of word.Symbolp = Some IsSymbol
primitive_of word.SymbolLess = Some SymbolLess
primitive_of word.Natp = Some IsNatural
primitive_of word.Less = Some Less
primitive_of word.Plus = Some Plus
primitive_of word.Minus = Some Minus
primitive_of word.Times = Some Times

abbrev pub profile_of : Level → Profile
profile_of level.One = One
profile_of level.Two = Two

abbrev pub refusal_of : Reason → Refusal
refusal_of reason.Range = RANGE
refusal_of reason.Event = EVENT
refusal_of reason.Name = NAME
refusal_of reason.Formals = FORMALS
refusal_of reason.Term = TERM
refusal_of reason.Formula = FORMULA
refusal_of reason.Variables = VARIABLES
refusal_of reason.Nested = NESTED
refusal_of reason.Count = COUNT
refusal_of reason.Conclusion = CONCLUSION
refusal_of reason.Proof = PROOF
refusal_of reason.Nil = NILVALUE
refusal_of reason.Steps = STEPS
refusal_of reason.Overflow = OVERFLOW
refusal_of reason.Witness = WITNESS
refusal_of reason.Claim = CLAIM
refusal_of reason.Checker = CHECKER
refusal_of reason.Long = LONG
refusal_of reason.Profile = PROFILE

-- the number of a reason, in the order in which the reasons are tested
abbrev pub number_of : Refusal → ℕ
number_of RANGE = 1
number_of EVENT = 2
number_of NAME = 3
number_of FORMALS = 4
number_of TERM = 5
number_of FORMULA = 6
number_of VARIABLES = 7
number_of NESTED = 8
number_of COUNT = 9
number_of CONCLUSION = 10
number_of PROOF = 11
number_of NILVALUE = 12
number_of STEPS = 13
number_of OVERFLOW = 14
number_of WITNESS = 15
number_of CLAIM = 16
number_of CHECKER = 17
number_of LONG = 18
number_of PROFILE = 19
