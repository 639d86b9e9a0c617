-- Definitions are total exactly where each call of what they define is not without a value; a witness keeps that.
use Rattle.std.proofs.Common.{◌≡◌, suc, Bool, true, false, cond, List, [], ◌∷◌, length, Some, refl, sym, ap, ◌∙◌, subst}
use Rattle.mw_model.specs.Terms.Object.{Name, Object, same_name}
use Rattle.mw_model.specs.Terms.Term.{Term, Call, ArityTable, arity_of, count}
use Rattle.mw_model.specs.Values.Primitive.{Profile, primitive_named}
use Rattle.mw_model.specs.Values.Definition.{Block, Choice, Definitions, definitions, arities, arity_table, are_blocks}
use Rattle.mw_model.specs.Values.Value.{Calls, IsWitness, pick, extend_by, block_calls, IsTotal}
use Rattle.mw_model.specs.Proofs.Proof.{constants}
use Rattle.mw_model.proofs.CallDepth.{no_primitive, constants_are}
use Rattle.mw_model.proofs.Formed.{AreFormed, formed, is_term-from}
use Rattle.mw_model.proofs.Depth.{one_value}
use Rattle.mw_model.proofs.SomeValue.{CallsHave, term_has, witness_has}
use Rattle.mw_truth.proofs.OlderTruth.{term_stays, value_from}

-- constants
constants_count : (vs : List Object) → count (constants vs) ≡ length vs
constants_count [] = refl
constants_count (v ∷ vs) = ap suc (constants_count vs)

constants_formed : (A : ArityTable) (vs : List Object) → AreFormed A (constants vs)
constants_formed A [] = tt
constants_formed A (v ∷ vs) = (tt, constants_formed A vs)

pub total_from : (D : Definitions) → CallsHave D.profile (block_calls D.profile D.blocks) (arity_table D) → IsTotal D
total_from D all = record {
  some = λ e t i k. term_has D.profile (block_calls D.profile D.blocks) (arity_table D) all e t (formed (arity_table D) t i) k;
  one = λ e t v w i h k. one_value D e t v w h k;
}

pub calls_from : (D : Definitions) → IsTotal D → CallsHave D.profile (block_calls D.profile D.blocks) (arity_table D)
calls_from D t f n ws c a p l k =
    let A = arity_table D in
    let C = block_calls D.profile D.blocks in
    t.some [] (Call f (constants ws)) (is_term-from A (Call f (constants ws)) (c, a ∙ ap Some (sym l ∙ sym (constants_count ws)), constants_formed A ws)) (λ v h.
    k v (subst (λ us. C f us v) (constants_are D.profile C [] ws h.0 h.1) (no_primitive C (primitive_named D.profile f) f h.0 v p h.2)))

-- total definitions are total without the newest block
pub total_before : (P : Profile) (B : Block) (D : List Block) → are_blocks P (B ∷ D) ≡ true → IsTotal (definitions P (B ∷ D)) → IsTotal (definitions P D)
total_before P B D w t = record {
  some = λ e u i k. t.some e u (term_stays P B D w u i) (λ v h. k v (value_from P B D w e u v i h));
  one = λ e u v v' i h k. one_value (definitions P D) e u v v' h k;
}

choice_calls : (P : Profile) (C : Calls) (A : ArityTable) (g y : Name) (xs : List Name) (b : Term) → CallsHave P C A → CallsHave P (extend_by C g (IsWitness P C y xs b)) ((g, length xs) ∷ A)
choice_calls P C A g y xs b all f n ws c a p l k = go (same_name g f) a k
  where
    go : (t : Bool) → cond t (Some (length xs)) (arity_of A f) ≡ Some n → ((v : Object) → pick t (IsWitness P C y xs b ws v) (C f ws v) → ⊥) → ⊥
    go true a' k' = witness_has P C y xs b ws k'
    go false a' k' = all f n ws c a' p l k'

pub choice_total : (P : Profile) (D : List Block) (g y : Name) (xs : List Name) (b : Term) → IsTotal (definitions P D) → IsTotal (definitions P (Choice g y xs b ∷ D))
choice_total P D g y xs b t =
    total_from (definitions P (Choice g y xs b ∷ D)) (choice_calls P (block_calls P D) (arities P D) g y xs b (calls_from (definitions P D) t))
