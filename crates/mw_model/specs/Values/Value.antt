-- The values of terms: the standard model of the definitions.
use Rattle.std.specs.Prelude.{◌≡◌, ◌≢◌, ℕ, zero, suc, Bool, true, false, cond, ◌⊎◌, List, [], ◌∷◌, Option, Some, None, zip}
use Rattle.mw_model.specs.Terms.Object.{Name, Object, same_name, is_before, NIL}
use Rattle.mw_model.specs.Terms.Term.{Term, Terms, Variable, Constant, If, Call, Lambda, NoTerms, More, IsTerm}
use Rattle.mw_model.specs.Values.Primitive.{Profile, Primitive, primitive_named, apply}
use Rattle.mw_model.specs.Values.Definition.{Function, Block, Functions, Choice, Definitions, function_named, arity_table}

-- Objects for variables. A variable that it lacks has NIL.
abbrev pub Environment : Type 0
Environment = List (Name × Object)

abbrev pub lookup : Environment → Name → Object
lookup [] x = NIL
lookup (p ∷ e) x = cond (same_name p.0 x) p.1 (lookup e x)

-- just the formals, bound to the values
abbrev pub bind : List Name → List Object → Environment
bind xs vs = zip xs vs

-- which calls have which values
abbrev pub Calls : Type 1
Calls = Name → List Object → Object → Type 0

abbrev pub OnCall : Calls → Option Primitive → Name → List Object → Object → Type 0
OnCall C None f vs v = C f vs v
OnCall C (Some p) f vs v = v ≡ apply p vs

-- HasValue P C e t v: the term t has the value v at e, where calls of functions that are not primitives have the values of C.
abbrev mutual
  pub HasValue : Profile → Calls → Environment → Term → Object → Type 0
  HasValue P C e (Variable x) v = v ≡ lookup e x
  HasValue P C e (Constant c) v = v ≡ c
  HasValue P C e (If a b c) v = ((u : Object) × (u ≢ NIL) × HasValue P C e a u × HasValue P C e b v) ⊎ (HasValue P C e a NIL × HasValue P C e c v)
  HasValue P C e (Call f ts) v = (vs : List Object) × HaveValues P C e ts vs × OnCall C (primitive_named P f) f vs v
  HasValue P C e (Lambda xs b ts) v = (vs : List Object) × HaveValues P C e ts vs × HasValue P C (bind xs vs) b v

  pub HaveValues : Profile → Calls → Environment → Terms → List Object → Type 0
  HaveValues P C e NoTerms vs = vs ≡ []
  HaveValues P C e (More t ts) vs = (u : Object) × (us : List Object) × (vs ≡ u ∷ us) × HasValue P C e t u × HaveValues P C e ts us

-- which calls of a block's functions have which values
abbrev pub BlockCalls : Type 1
BlockCalls = Function → List Object → Object → Type 0

abbrev pub OnFunction : Calls → BlockCalls → Option Function → Name → List Object → Object → Type 0
OnFunction C R None f vs v = C f vs v
OnFunction C R (Some h) f vs v = R h vs v

-- C, but for the calls of a block
abbrev pub extend : Calls → List Function → BlockCalls → Calls
extend C B R f vs v = OnFunction C R (function_named B f) f vs v

-- a call of a function of the block, at most k deep: just the formals are bound, and in the body calls are one less deep
abbrev pub CallWithin : Profile → Calls → List Function → ℕ → BlockCalls
CallWithin P C B zero h vs v = ⊥
CallWithin P C B (suc k) h vs v = HasValue P (extend C B (CallWithin P C B k)) (bind h.formals vs) h.body v

abbrev pub CallAtSomeDepth : Profile → Calls → List Function → BlockCalls
CallAtSomeDepth P C B h vs v = (k : ℕ) × CallWithin P C B k h vs v

-- x put for the bound variable makes the body of a witness other than NIL
abbrev pub Satisfies : Profile → Calls → Name → List Name → Term → List Object → Object → Type 0
Satisfies P C y xs b vs x = (u : Object) × (u ≢ NIL) × HasValue P C ((y, x) ∷ bind xs vs) b u

-- the first such object, or NIL where there is none
abbrev pub IsWitness : Profile → Calls → Name → List Name → Term → List Object → Object → Type 0
IsWitness P C y xs b vs v =
    (Satisfies P C y xs b vs v × ((x : Object) → is_before x v ≡ true → Satisfies P C y xs b vs x → ⊥)) ⊎
    ((v ≡ NIL) × ((x : Object) → Satisfies P C y xs b vs x → ⊥))

abbrev pub pick : Bool → Type 0 → Type 0 → Type 0
pick true Here There = Here
pick false Here There = There

-- C, but for the calls of g
abbrev pub extend_by : Calls → Name → (List Object → Object → Type 0) → Calls
extend_by C g R f vs v = pick (same_name g f) (R vs v) (C f vs v)

-- The calls of the blocks. Those of an earlier block have their values among the earlier blocks alone.
abbrev pub block_calls : Profile → List Block → Calls
block_calls P [] = λ f vs v. ⊥
block_calls P (Functions B ∷ D) = extend (block_calls P D) B (CallAtSomeDepth P (block_calls P D) B)
block_calls P (Choice g y xs b ∷ D) = extend_by (block_calls P D) g (IsWitness P (block_calls P D) y xs b)

-- v is a value of t: at some depth, which is the same as calls at some depth each
abbrev pub IsValue : Definitions → Environment → Term → Object → Type 0
IsValue D e t v = HasValue D.profile (block_calls D.profile D.blocks) e t v

-- no term is without a value, or has two
pub record IsTotal (D : Definitions) : Type 0 where
  pub some : (e : Environment) (t : Term) → IsTerm (arity_table D) t → ((v : Object) → IsValue D e t v → ⊥) → ⊥
  pub one : (e : Environment) (t : Term) (v w : Object) → IsTerm (arity_table D) t → IsValue D e t v → IsValue D e t w → v ≡ w
