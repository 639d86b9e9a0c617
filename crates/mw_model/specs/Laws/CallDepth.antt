-- What a call's value is, by its depth: statements of laws.
use Rattle.std.specs.Prelude.{◌≡◌, ◌↔◌, ℕ, suc, Bool, false, List, [], ◌∷◌, Some, None, ◌||◌, is_some}
use Rattle.mw_model.specs.Terms.Object.{Name, Object, same_name}
use Rattle.mw_model.specs.Terms.Term.{Term, Terms, Call}
use Rattle.mw_model.specs.Values.Primitive.{Profile, primitive_named}
use Rattle.mw_model.specs.Values.Definition.{Function, Block, Functions, Choice, Definitions, definitions, function_named}
use Rattle.mw_model.specs.Values.Value.{Environment, Calls, HasValue, HaveValues, CallWithin, IsWitness, bind, extend, extend_by, block_calls}
use Rattle.mw_model.specs.Proofs.Proof.{constants}

-- the name of a function or witness of these blocks
abbrev pub is_defined : List Block → Name → Bool
is_defined [] f = false
is_defined (Functions B ∷ D) f = is_some (function_named B f) || is_defined D f
is_defined (Choice g y xs b ∷ D) f = same_name g f || is_defined D f

-- the calls of the blocks, with those of the last block at most k deep
abbrev pub block_calls_within : Profile → List Block → ℕ → Calls
block_calls_within P [] k = λ f vs v. ⊥
block_calls_within P (Functions B ∷ D) k = extend (block_calls P D) B (CallWithin P (block_calls P D) B k)
block_calls_within P (Choice g y xs b ∷ D) k = extend_by (block_calls P D) g (IsWitness P (block_calls P D) y xs b)

-- v is a value of t with call depth at most k
abbrev pub IsValueWithin : Definitions → ℕ → Environment → Term → Object → Type 0
IsValueWithin D k e t v = HasValue D.profile (block_calls_within D.profile D.blocks k) e t v

-- values of each of the terms with call depth at most k
abbrev pub AreValuesWithin : Definitions → ℕ → Environment → Terms → List Object → Type 0
AreValuesWithin D k e ts vs = HaveValues D.profile (block_calls_within D.profile D.blocks k) e ts vs

-- A function of the last block: the depth is not 0, and the body has the value one less deep where just the formals
-- are bound to the values of the actuals.
abbrev pub CallOfFunction : Type 0
CallOfFunction =
    (P : Profile) (B : List Function) (D : List Block) (f : Name) (h : Function) → primitive_named P f ≡ None → function_named B f ≡ Some h →
    (k : ℕ) (e : Environment) (ts : Terms) (v : Object) →
    IsValueWithin (definitions P (Functions B ∷ D)) k e (Call f ts) v
    ↔ ((j : ℕ) × (vs : List Object) × (k ≡ suc j) × AreValuesWithin (definitions P (Functions B ∷ D)) k e ts vs × IsValueWithin (definitions P (Functions B ∷ D)) j (bind h.formals vs) h.body v)

-- The witness of the last block: the first object that makes the body other than NIL among the earlier blocks, or NIL.
abbrev pub CallOfWitness : Type 0
CallOfWitness =
    (P : Profile) (g y : Name) (xs : List Name) (b : Term) (D : List Block) → primitive_named P g ≡ None →
    (k : ℕ) (e : Environment) (ts : Terms) (v : Object) →
    IsValueWithin (definitions P (Choice g y xs b ∷ D)) k e (Call g ts) v
    ↔ ((vs : List Object) × AreValuesWithin (definitions P (Choice g y xs b ∷ D)) k e ts vs × IsWitness P (block_calls P D) y xs b vs v)

-- A name that the last block has not: the call on the values of the actuals has the value among the earlier blocks, at
-- some depth.
abbrev pub CallOfEarlier : Type 0
CallOfEarlier =
    (P : Profile) (L : Block) (D : List Block) (f : Name) → primitive_named P f ≡ None → is_defined (L ∷ []) f ≡ false →
    (k : ℕ) (e : Environment) (ts : Terms) (v : Object) →
    IsValueWithin (definitions P (L ∷ D)) k e (Call f ts) v
    ↔ ((vs : List Object) × (j : ℕ) × AreValuesWithin (definitions P (L ∷ D)) k e ts vs × IsValueWithin (definitions P D) j [] (Call f (constants vs)) v)
