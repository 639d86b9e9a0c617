-- A call of a built-in function has exactly its answer, and each table of definitions that begin with the built-in ones has IF.
use Rattle.std.proofs.Common.{◌≡◌, ◌↔◌, true, List, Some, refl, sym, ◌∙◌, subst}
use Prim.Native.String.{String}
use Rattle.mw_model.specs.Terms.Object.{Object, named}
use Rattle.mw_model.specs.Terms.Term.{is_among, arity_of}
use Rattle.mw_model.specs.Values.Primitive.{Profile, One, Two}
use Rattle.mw_model.specs.Values.Definition.{Block, arities, are_blocks}
use Rattle.mw_model.specs.Values.Value.{block_calls}
use Rattle.mw_model.specs.BuiltIns.BuiltIn.{built_in}
use Rattle.mw_model.specs.Events.Theory.{BeginsWith}
use Rattle.mw_model.proofs.Begins.{begins_arity}
use Rattle.mw_model.proofs.BuiltInValue.{names}
use Rattle.mw_model.proofs.BuiltInAnswers.{answer, before_witness}
use Rattle.mw_model.proofs.BuiltInTotal.{begun_answer, begun_answer-only}

module _ (P : Profile) (D : List Block) (w : are_blocks P D ≡ true) (begins : BeginsWith (built_in P) D) where
  pub exactly : (f : String) → is_among (named f) (names (before_witness (built_in P))) ≡ true → (vs : List Object) (u : Object) → answer P f vs ≡ u → (v : Object) → block_calls P D (named f) vs v ↔ (v ≡ u)
  exactly f i vs u e v =
      (λ h. begun_answer-only P D w begins f i vs v h ∙ e, λ q. subst (λ z. block_calls P D (named f) vs z) (e ∙ sym q) (begun_answer P D w begins f i vs))

  -- so the laws speak of the table of each such list of definitions
  pub three_of_if : arity_of (arities P D) (named "IF") ≡ Some 3
  three_of_if = begins_arity P (built_in P) D w begins (named "IF") 3 (go P)
    where
      go : (P : Profile) → arity_of (arities P (built_in P)) (named "IF") ≡ Some 3
      go One = refl
      go Two = refl
