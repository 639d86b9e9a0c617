-- The value of a call, by its depth: what the calls of the last block and of an earlier one come to.
use Rattle.std.proofs.Common.{◌≡◌, ℕ, zero, suc, Bool, true, false, ◌||◌, List, [], ◌∷◌, Option, Some, None, refl, sym, ap₂, ◌∙◌, subst, is_some}
use Rattle.mw_model.specs.Terms.Object.{Name, Object, same_name}
use Rattle.mw_model.specs.Terms.Term.{Terms, Call}
use Rattle.mw_model.specs.Values.Primitive.{Profile, Primitive, primitive_named}
use Rattle.mw_model.specs.Values.Definition.{Function, Block, Functions, Choice, definitions, function_named}
use Rattle.mw_model.specs.Values.Value.{Environment, bind, Calls, BlockCalls, OnCall, HaveValues, OnFunction, CallWithin, IsWitness, pick, block_calls}
use Rattle.mw_model.specs.Proofs.Proof.{constants}
use Rattle.mw_model.specs.Laws.CallDepth.{CallOfFunction, CallOfWitness, CallOfEarlier, is_defined, block_calls_within, IsValueWithin}
use Rattle.mw_model.proofs.Names.{same_name-refl}
use Rattle.mw_model.proofs.Depth.{at_some_depth, from_some_depth}

-- a call of what is no primitive
pub no_primitive : (C : Calls) (o : Option Primitive) (f : Name) (vs : List Object) (v : Object) → o ≡ None → OnCall C o f vs v → C f vs v
no_primitive C None f vs v e h = h
no_primitive C (Some p) f vs v e h = cc

pub on_no_primitive : (C : Calls) (o : Option Primitive) (f : Name) (vs : List Object) (v : Object) → o ≡ None → C f vs v → OnCall C o f vs v
on_no_primitive C None f vs v e h = h
on_no_primitive C (Some p) f vs v e h = cc

-- a function of the block, at some depth k
one_less : (P : Profile) (B : List Function) (D : List Block) (h : Function) (k : ℕ) (vs : List Object) (v : Object) →
    CallWithin P (block_calls P D) B k h vs v → (j : ℕ) × (k ≡ suc j) × IsValueWithin (definitions P (Functions B ∷ D)) j (bind h.formals vs) h.body v
one_less P B D h zero vs v c = absurd c
one_less P B D h (suc j) vs v c = (j, refl, c)

of_function : (C : Calls) (R : BlockCalls) (o : Option Function) (f : Name) (h : Function) (vs : List Object) (v : Object) → o ≡ Some h → OnFunction C R o f vs v → R h vs v
of_function C R o f h vs v e c = subst (λ o. OnFunction C R o f vs v) e c

pub call_of_function : CallOfFunction
call_of_function P B D f h n i k e ts v =
    let L = block_calls_within P (Functions B ∷ D) k in
    let C = block_calls P D in
    let R = CallWithin P C B in (
      λ (vs, a, c).
          let r = one_less P B D h k vs v (of_function C (R k) (function_named B f) f h vs v i (no_primitive L (primitive_named P f) f vs v n c)) in
          (r.0, vs, r.1, a, r.2),
      λ (j, vs, s, a, c).
          let d : R k h vs v = subst (λ m. R m h vs v) (sym s) c in
          (vs, a, on_no_primitive L (primitive_named P f) f vs v n (subst (λ o. OnFunction C (R k) o f vs v) (sym i) d)),
    )

pub call_of_witness : CallOfWitness
call_of_witness P g y xs b D n k e ts v =
    let L = block_calls_within P (Choice g y xs b ∷ D) k in (
      λ (vs, a, c). (vs, a, subst (λ t. pick t (IsWitness P (block_calls P D) y xs b vs v) (block_calls P D g vs v)) (same_name-refl g) (no_primitive L (primitive_named P g) g vs v n c)),
      λ (vs, a, c). (vs, a, on_no_primitive L (primitive_named P g) g vs v n (subst (λ t. pick t (IsWitness P (block_calls P D) y xs b vs v) (block_calls P D g vs v)) (sym (same_name-refl g)) c)),
    )

-- constants have their values, and no others
pub constants_have : (P : Profile) (C : Calls) (e : Environment) (vs : List Object) → HaveValues P C e (constants vs) vs
constants_have P C e [] = refl
constants_have P C e (v ∷ vs) = (v, vs, refl, refl, constants_have P C e vs)

pub constants_are : (P : Profile) (C : Calls) (e : Environment) (vs ws : List Object) → HaveValues P C e (constants vs) ws → ws ≡ vs
constants_are P C e [] ws h = h
constants_are P C e (v ∷ vs) ws (u, us, p, q, r) = p ∙ ap₂ ◌∷◌ q (constants_are P C e vs us r)

left_false : (b : Bool) → (b || false) ≡ false → b ≡ false
left_false true h = cc
left_false false h = refl

-- a call of a name that the block has not is a call among the others
past_block : (P : Profile) (L : Block) (D : List Block) (k : ℕ) (f : Name) (vs : List Object) (v : Object) → is_defined (L ∷ []) f ≡ false → block_calls_within P (L ∷ D) k f vs v → block_calls P D f vs v
past_block P (Functions B) D k f vs v n c = go (function_named B f) n c
  where
    go : (o : Option Function) → (is_some o || false) ≡ false → OnFunction (block_calls P D) (CallWithin P (block_calls P D) B k) o f vs v → block_calls P D f vs v
    go None e c = c
    go (Some h) e c = cc
past_block P (Choice g y xs b) D k f vs v n c = subst (λ t. pick t (IsWitness P (block_calls P D) y xs b vs v) (block_calls P D f vs v)) (left_false (same_name g f) n) c

before_block : (P : Profile) (L : Block) (D : List Block) (k : ℕ) (f : Name) (vs : List Object) (v : Object) → is_defined (L ∷ []) f ≡ false → block_calls P D f vs v → block_calls_within P (L ∷ D) k f vs v
before_block P (Functions B) D k f vs v n c = go (function_named B f) n
  where
    go : (o : Option Function) → (is_some o || false) ≡ false → OnFunction (block_calls P D) (CallWithin P (block_calls P D) B k) o f vs v
    go None e = c
    go (Some h) e = cc
before_block P (Choice g y xs b) D k f vs v n c = subst (λ t. pick t (IsWitness P (block_calls P D) y xs b vs v) (block_calls P D f vs v)) (sym (left_false (same_name g f) n)) c

pub call_of_earlier : CallOfEarlier
call_of_earlier P B D f n i k e ts v =
    let L = block_calls_within P (B ∷ D) k in
    let C = block_calls P D in (
      λ (vs, a, c).
          let d = past_block P B D k f vs v i (no_primitive L (primitive_named P f) f vs v n c) in
          let r = at_some_depth (definitions P D) [] (Call f (constants vs)) v (vs, constants_have P C [] vs, on_no_primitive C (primitive_named P f) f vs v n d) in
          (vs, r.0, a, r.1),
      λ (vs, j, a, c).
          let u = from_some_depth (definitions P D) j [] (Call f (constants vs)) v c in
          let d = subst (λ ws. C f ws v) (constants_are P C [] vs u.0 u.1) (no_primitive C (primitive_named P f) f u.0 v n u.2) in
          (vs, a, on_no_primitive L (primitive_named P f) f vs v n (before_block P B D k f vs v i d)),
    )

pub call_of_none : (P : Profile) (f : Name) → primitive_named P f ≡ None → (k : ℕ) (e : Environment) (ts : Terms) (v : Object) → IsValueWithin (definitions P []) k e (Call f ts) v → ⊥
call_of_none P f n k e ts v h = no_primitive (block_calls_within P [] k) (primitive_named P f) f h.0 v n h.2
