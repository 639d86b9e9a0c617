-- Each call of a built-in function or witness has a value, and so has each term over them.
use Rattle.std.proofs.Common.{◌≡◌, ◌≢◌, Bool, true, false, ◌||◌, cond, List, [], ◌∷◌, ◌++◌, append_assoc, Some, None, refl, sym, ap, ◌∙◌, subst, ◌⊎◌, inl, inr, is_some}
use Rattle.std.proofs.lemmas.Bool.{or_cases, or_left, or_right, false≢true}
use Prim.Native.String.{String}
use Rattle.mw_model.specs.Terms.Object.{Name, Object, named, same_name}
use Rattle.mw_model.specs.Terms.Term.{is_among}
use Rattle.mw_model.specs.Values.Primitive.{Profile, One, Two}
use Rattle.mw_model.specs.Values.Definition.{Function, Block, Functions, Choice, arities, are_blocks}
use Rattle.mw_model.specs.Laws.CallDepth.{is_defined}
use Rattle.mw_model.specs.Values.Value.{bind, OnFunction, pick, CallAtSomeDepth, IsWitness, block_calls, IsTotal}
use Rattle.mw_model.specs.BuiltIns.BuiltIn.{block_of, built_in, built_in_definitions}
use Rattle.mw_model.specs.BuiltIns.BuiltInProofs.{logic_provable_witness, logic_provablep}
use Rattle.mw_model.specs.Events.Theory.{BeginsWith}
use Rattle.mw_model.proofs.Names.{same_name-eq, same_name-from, name_cases}
use Rattle.mw_model.proofs.Formed.{Formed, formed}
use Rattle.mw_model.proofs.Depth.{block_fold, block_calls-det, one_value}
use Rattle.mw_model.proofs.Older.{older_to, older_made}
use Rattle.mw_model.proofs.SomeValue.{Has, CallsHave, term_has, witness_has}
use Rattle.mw_model.proofs.Defined.{arity_defined, defined_arity}
use Rattle.mw_model.proofs.Begins.{begins_call}
use Rattle.mw_model.proofs.BuiltInRead.{well_made}
use Rattle.mw_model.proofs.BuiltInValue.{names}
use Rattle.mw_model.proofs.BuiltInCalls.{alone}
use Rattle.mw_model.proofs.BuiltInAnswers.{answer, before_witness, built_in_functions, built_in-parts, built_in_value, built_in_value-value}

-- each call of a defined name is not without a value
abbrev pub DefinedHave : Profile → List Block → Type 0
DefinedHave P D = (f : Name) → is_defined D f ≡ true → (vs : List Object) → Has (block_calls P D f vs)

alone_among : (B : List Function) (f : Name) → is_defined (alone B) f ≡ true → is_among f (names B) ≡ true
alone_among [] f h = absurd (false≢true h)
alone_among (g ∷ B) f h = go (same_name g.name f) refl h (alone_among B f)
  where
    go : (t : Bool) → same_name g.name f ≡ t → is_some (cond t (Some g) None) || is_defined (alone B) f ≡ true → (is_defined (alone B) f ≡ true → is_among f (names B) ≡ true) → same_name f g.name || is_among f (names B) ≡ true
    go true e i ih = or_left (same_name f g.name) (is_among f (names B)) (same_name-from f g.name (sym (same_name-eq g.name f e)))
    go false e i ih = or_right (same_name f g.name) (is_among f (names B)) (ih i)

among_alone : (B : List Function) (f : Name) → is_among f (names B) ≡ true → is_defined (alone B) f ≡ true
among_alone [] f h = absurd (false≢true h)
among_alone (g ∷ B) f h = go (name_cases g.name f) (or_cases (same_name f g.name) (is_among f (names B)) h) (among_alone B f)
  where
    go : ((same_name g.name f ≡ true) × (g.name ≡ f)) ⊎ ((same_name g.name f ≡ false) × (g.name ≢ f)) → (same_name f g.name ≡ true) ⊎ (is_among f (names B) ≡ true) → (is_among f (names B) ≡ true → is_defined (alone B) f ≡ true) → is_defined (alone (g ∷ B)) f ≡ true
    go (inl q) h ih = ap (λ t. is_some (cond t (Some g) None) || is_defined (alone B) f) q.0
    go (inr q) (inl e) ih = absurd (q.1 (sym (same_name-eq f g.name e)))
    go (inr q) (inr i) ih = or_right (is_some (cond (same_name g.name f) (Some g) None)) (is_defined (alone B) f) (ih i)

module _ (P : Profile) where
  calls_have : (D : List Block) → DefinedHave P D → CallsHave P (block_calls P D) (arities P D)
  calls_have D all f n vs c a o l = all f (arity_defined P D f n c o a) vs

  -- a witness, or one function whose body is a term over the older ones
  abbrev IsPlain : List Block → Block → Type 0
  IsPlain D (Functions (h ∷ [])) = Formed (arities P D) h.body
  IsPlain D (Choice g y xs b) = Unit {0}
  IsPlain D _ = ⊥

  -- with such a block more
  plain_have : (X : Block) (D : List Block) → are_blocks P (X ∷ D) ≡ true → IsPlain D X → DefinedHave P D → DefinedHave P (X ∷ D)
  plain_have (Functions (h ∷ [])) D w i all f d vs = go (same_name h.name f) d
    where
      go : (t : Bool) → is_some (cond t (Some h) None) || is_defined D f ≡ true → Has (OnFunction (block_calls P D) (CallAtSomeDepth P (block_calls P D) (h ∷ [])) (cond t (Some h) None) f vs)
      go true d k =
          term_has P (block_calls P D) (arities P D) (calls_have D all) (bind h.formals vs) h.body i
          (λ v hv. k v (block_fold P (block_calls P D) (h ∷ []) h vs v (older_to P (block_of h) D w (bind h.formals vs) h.body v i hv)))
      go false d k = all f d vs k
  plain_have (Choice g y xs b) D w i all f d vs = go (same_name g f) d
    where
      go : (t : Bool) → t || is_defined D f ≡ true → Has (λ v. pick t (IsWitness P (block_calls P D) y xs b vs v) (block_calls P D f vs v))
      go true d = witness_has P (block_calls P D) y xs b vs
      go false d = all f d vs
  plain_have (Functions []) D w i all f d vs = absurd i
  plain_have (Functions (g ∷ h ∷ B)) D w i all f d vs = absurd i

  functions_have : DefinedHave P (alone (built_in_functions P))
  functions_have f h vs k = k (built_in_value P f vs) (built_in_value-value P f (alone_among (built_in_functions P) f h) vs)

provablep_formed : (P : Profile) → Formed (arities P (logic_provable_witness ∷ alone (built_in_functions P))) logic_provablep.body
unfolding built_in_functions
provablep_formed One = formed (arities One (logic_provable_witness ∷ alone (built_in_functions One))) logic_provablep.body refl
provablep_formed Two = formed (arities Two (logic_provable_witness ∷ alone (built_in_functions Two))) logic_provablep.body refl

module _ (P : Profile) where
  abbrev Older : List Block
  Older = logic_provable_witness ∷ alone (built_in_functions P)

  parts_made : are_blocks P (block_of logic_provablep ∷ Older) ≡ true
  parts_made = subst (λ D. are_blocks P D ≡ true) (built_in-parts P) (well_made P)

  older_have : DefinedHave P Older
  older_have = plain_have P logic_provable_witness (alone (built_in_functions P)) (older_made P (block_of logic_provablep) Older parts_made) tt (functions_have P)

  -- not none
  pub built_in_have : DefinedHave P (built_in P)
  built_in_have = subst (DefinedHave P) (sym (built_in-parts P)) (plain_have P (block_of logic_provablep) Older parts_made (provablep_formed P) older_have)

  -- and at most one, in all definitions that begin with these
  pub begun_have : (D : List Block) → are_blocks P D ≡ true → BeginsWith (built_in P) D → (f : Name) → is_defined (built_in P) f ≡ true → (vs : List Object) → Has (block_calls P D f vs)
  begun_have D w begins f d vs k =
      let a = defined_arity P (built_in P) f d in
      built_in_have f d vs (λ v h. k v (subst (λ T. T) (sym (begins_call P (built_in P) D w begins f a.0 a.1 vs v)) h))

  pub built_in_total : IsTotal (built_in_definitions P)
  built_in_total = record {
    some = λ e t i. term_has P (block_calls P (built_in P)) (arities P (built_in P)) (calls_have P (built_in P) built_in_have) e t (formed (arities P (built_in P)) t i);
    one = λ e t v w i h k. one_value (built_in_definitions P) e t v w h k;
  }

  begins_alone : (D : List Block) → BeginsWith (built_in P) D → BeginsWith (alone (built_in_functions P)) D
  begins_alone D begins =
      let front = block_of logic_provablep ∷ logic_provable_witness ∷ [] in
      (begins.0 ++ front, begins.1 ∙ (ap (λ z. begins.0 ++ z) (built_in-parts P) ∙ sym (append_assoc begins.0 front (alone (built_in_functions P)))))

  -- a call has the answer and no other value
  pub begun_value : (D : List Block) → are_blocks P D ≡ true → BeginsWith (built_in P) D → (f : Name) → is_among f (names (built_in_functions P)) ≡ true → (vs : List Object) → block_calls P D f vs (built_in_value P f vs)
  begun_value D w begins f i vs =
      let a = defined_arity P (alone (built_in_functions P)) f (among_alone (built_in_functions P) f i) in
      subst (λ T. T) (sym (begins_call P (alone (built_in_functions P)) D w (begins_alone D begins) f a.0 a.1 vs (built_in_value P f vs))) (built_in_value-value P f i vs)

  pub begun_value-only : (D : List Block) → are_blocks P D ≡ true → BeginsWith (built_in P) D → (f : Name) → is_among f (names (built_in_functions P)) ≡ true → (vs : List Object) (v : Object) → block_calls P D f vs v → v ≡ built_in_value P f vs
  begun_value-only D w begins f i vs v h = block_calls-det P D f vs v (built_in_value P f vs) h (begun_value D w begins f i vs)

-- the same at a function's text: the premise holds by `refl` for each of the 52 functions
module _ (P : Profile) (D : List Block) (w : are_blocks P D ≡ true) (begins : BeginsWith (built_in P) D) (f : String) (i : is_among (named f) (names (before_witness (built_in P))) ≡ true) (vs : List Object) where
  pub begun_answer : block_calls P D (named f) vs (answer P f vs)
  unfolding built_in_functions
  begun_answer = begun_value P D w begins (named f) i vs

  pub begun_answer-only : (v : Object) → block_calls P D (named f) vs v → v ≡ answer P f vs
  begun_answer-only v h = block_calls-det P D (named f) vs v (answer P f vs) h begun_answer

-- the built-in definitions themselves are such definitions, with calls to speak of
pub built_in_begins : (P : Profile) → BeginsWith (built_in P) (built_in P)
built_in_begins P = ([], refl)

pub provablep_defined : (P : Profile) → is_defined (built_in P) (named "LOGIC.PROVABLEP") ≡ true
provablep_defined P = refl

pub witness_defined : (P : Profile) → is_defined (built_in P) (named "LOGIC.PROVABLE-WITNESS") ≡ true
witness_defined P = refl

step_answer : (P : Profile) (vs : List Object) → block_calls P (built_in P) (named "LOGIC.STEP-OKP") vs (answer P "LOGIC.STEP-OKP" vs)
step_answer P vs = begun_answer P (built_in P) (well_made P) (built_in_begins P) "LOGIC.STEP-OKP" refl vs
