-- What a primitive function, or IF, answers at references of a heap.
use Rattle.std.specs.Prelude.{◌≡◌, ℕ, Bool, true, false, List, Option, Some, None}
use Rattle.mw_model.specs.Terms.Object.{Object}
use Rattle.mw_model.specs.Values.Primitive.{Primitive, primitive_arity, apply, choose, first_value, second_value}
use Rattle.mw_model.specs.Events.Evaluation.{is_past_range}
use Rattle.mw_model.specs.Laws.Rules.{third_value}
use Rattle.mw_heap.specs.Objects.{object_at, IsIn}
use Rattle.mw_heap.specs.Variants.{primitive_of}
use Rattle.mw_heap.specs.declared.vocabulary.primitive.Primitive.{Primitive as Word}
use Rattle.mw_base.specs.declared.applied.Applied.{Applied}
use Rattle.mw_base.specs.declared.applied.Applied.TheVariants.{Value, Overflow, Memory}

-- the primitive, or IF where there is none
abbrev pub arity_by : Option Primitive → ℕ
arity_by None = 3
arity_by (Some q) = primitive_arity q

abbrev pub value_by : Option Primitive → List Object → Object
value_by None vs = choose (first_value vs) (second_value vs) (third_value vs)
value_by (Some q) vs = apply q vs

abbrev pub is_past_range_by : Option Primitive → List Object → Bool
is_past_range_by None vs = false
is_past_range_by (Some q) vs = is_past_range q vs

abbrev pub arity : Word → ℕ
arity p = arity_by (primitive_of p)

abbrev pub value_of : Word → List Object → Object
value_of p vs = value_by (primitive_of p) vs

-- a sum or product of 2^128 or more
abbrev pub overflows : Word → List Object → Bool
overflows p vs = is_past_range_by (primitive_of p) vs

-- a value is the object v, and Overflow is answered exactly where the test is true
abbrev pub Answers : List Object → Bool → Object → Applied → Type 0
Answers os past v (Value r) = (past ≡ false) × IsIn os r × (object_at os r ≡ v)
Answers os past v Overflow = past ≡ true
Answers os past v Memory = Unit {0}

-- the same where memory is not asked for, and no value is Overflow
abbrev pub AnswersReserved : List Object → Bool → Object → Option ℕ → Type 0
AnswersReserved os past v (Some r) = (past ≡ false) × IsIn os r × (object_at os r ≡ v)
AnswersReserved os past v None = past ≡ true

-- it is answered, and memory was not refused
abbrev pub IsAnswered : Applied → Type 0
IsAnswered (Value r) = Unit {0}
IsAnswered Overflow = Unit {0}
IsAnswered Memory = ⊥
