-- The built-in functions: each call has the value of a total function, which is the value of its body.
use Rattle.std.proofs.Common.{◌≡◌, true, List, [], ◌∷◌, Option, Some, None, refl}
use Prim.Native.String.{String}
use Rattle.mw_model.specs.Terms.Object.{Name, Object, named}
use Rattle.mw_model.specs.Terms.Term.{is_among}
use Rattle.mw_model.specs.Values.Primitive.{Profile, One, Two}
use Rattle.mw_model.specs.Values.Definition.{Function, Block, Functions, Choice, function_named}
use Rattle.mw_model.specs.Values.Value.{bind, block_calls}
use Rattle.mw_model.specs.BuiltIns.BuiltIn.{block_of, built_in}
use Rattle.mw_model.specs.BuiltIns.BuiltInProofs.{logic_provable_witness, logic_provablep}
use Rattle.mw_model.proofs.BuiltInValue.{value_at, names, are_descending, answers}
use Rattle.mw_model.proofs.BuiltInCalls.{alone, answers_agree}
use Rattle.mw_model.proofs.BuiltInBodies.{answers-body}

abbrev pub functions_of : List Block → List Function
functions_of [] = []
functions_of (Functions (h ∷ []) ∷ D) = h ∷ functions_of D
functions_of (_ ∷ D) = functions_of D

-- the functions that are older than the last witness
abbrev pub before_witness : List Block → List Function
before_witness [] = []
before_witness (Functions B ∷ D) = before_witness D
before_witness (Choice g y xs b ∷ D) = functions_of D

-- the 52 built-in functions that do not rest on the witness; newest first
unfoldable pub built_in_functions : Profile → List Function
built_in_functions P = before_witness (built_in P)

pub built_in-parts : (P : Profile) → built_in P ≡ block_of logic_provablep ∷ logic_provable_witness ∷ alone (built_in_functions P)
unfolding built_in_functions
built_in-parts P = refl

pub built_in_descending : (P : Profile) → are_descending P (built_in_functions P) ≡ true
unfolding built_in_functions
built_in_descending One = refl
built_in_descending Two = refl

-- the total function of all built-in functions but LOGIC.PROVABLEP
unfoldable pub built_in_value : Profile → Name → List Object → Object
built_in_value P = answers P (built_in_functions P)

-- the same, by the function's text
abbrev pub answer : Profile → String → List Object → Object
answer P f vs = built_in_value P (named f) vs

abbrev pub HasBody : Profile → Name → List Object → Option Function → Type 0
HasBody P f vs None = Unit {0}
HasBody P f vs (Some h) = built_in_value P f vs ≡ value_at P (built_in_value P) (bind h.formals vs) h.body

-- a function's call has its answer
pub built_in_value-value : (P : Profile) (f : Name) → is_among f (names (built_in_functions P)) ≡ true → (vs : List Object) → block_calls P (alone (built_in_functions P)) f vs (built_in_value P f vs)
unfolding built_in_value
built_in_value-value P = answers_agree P (built_in_functions P) (built_in_descending P)

-- The answer is the body's value, where calls have these answers. At a function's text this is an equation that computes.
pub answer-body : (P : Profile) (f : String) (vs : List Object) → HasBody P (named f) vs (function_named (before_witness (built_in P)) (named f))
unfolding built_in_functions built_in_value
answer-body P f vs = go (function_named (built_in_functions P) (named f)) refl
  where
    go : (o : Option Function) → function_named (built_in_functions P) (named f) ≡ o → HasBody P (named f) vs o
    go None e = tt
    go (Some h) e = answers-body P (built_in_functions P) (built_in_descending P) (named f) h vs e
