-- Where newer blocks stand before older ones, older arities and calls stay.
use Rattle.std.proofs.Common.{◌≡◌, ℕ, true, List, [], ◌∷◌, ◌++◌, Some, refl, sym, ap, ◌∙◌, subst}
use Rattle.mw_model.specs.Terms.Object.{Name, Object}
use Rattle.mw_model.specs.Terms.Term.{Term, arity_of}
use Rattle.mw_model.specs.Values.Primitive.{Profile}
use Rattle.mw_model.specs.Values.Definition.{Block, arities, are_blocks}
use Rattle.mw_model.specs.Values.Value.{Environment, HasValue, block_calls}
use Rattle.mw_model.specs.Events.Theory.{BeginsWith}
use Rattle.mw_model.proofs.Formed.{Formed}
use Rattle.mw_model.proofs.Values.{ev_along}
use Rattle.mw_model.proofs.Older.{older_made, arity_stays, call_stays}

module _ (P : Profile) where
  newer_older : (newer old : List Block) → are_blocks P (newer ++ old) ≡ true → are_blocks P old ≡ true
  newer_older [] old w = w
  newer_older (X ∷ newer) old w = newer_older newer old (older_made P X (newer ++ old) w)

  newer_arity : (newer old : List Block) → are_blocks P (newer ++ old) ≡ true → (f : Name) (n : ℕ) → arity_of (arities P old) f ≡ Some n → arity_of (arities P (newer ++ old)) f ≡ Some n
  newer_arity [] old w f n a = a
  newer_arity (X ∷ newer) old w f n a =
      let r = older_made P X (newer ++ old) w in
      arity_stays P X (newer ++ old) w f n (newer_arity newer old r f n a)

  newer_call : (newer old : List Block) → are_blocks P (newer ++ old) ≡ true → (f : Name) (n : ℕ) → arity_of (arities P old) f ≡ Some n → (vs : List Object) (v : Object) → block_calls P (newer ++ old) f vs v ≡ block_calls P old f vs v
  newer_call [] old w f n a vs v = refl
  newer_call (X ∷ newer) old w f n a vs v =
      let r = older_made P X (newer ++ old) w in
      call_stays P X (newer ++ old) w f n (newer_arity newer old r f n a) vs v ∙ newer_call newer old r f n a vs v

  module _ (old D : List Block) (w : are_blocks P D ≡ true) (begins : BeginsWith old D) where
    made : are_blocks P (begins.0 ++ old) ≡ true
    made = subst (λ z. are_blocks P z ≡ true) begins.1 w

    pub begins_made : are_blocks P old ≡ true
    begins_made = newer_older begins.0 old made

    pub begins_arity : (f : Name) (n : ℕ) → arity_of (arities P old) f ≡ Some n → arity_of (arities P D) f ≡ Some n
    begins_arity f n a = subst (λ z. arity_of (arities P z) f ≡ Some n) (sym begins.1) (newer_arity begins.0 old made f n a)

    -- a call of an older function has the same values
    pub begins_call : (f : Name) (n : ℕ) → arity_of (arities P old) f ≡ Some n → (vs : List Object) (v : Object) → block_calls P D f vs v ≡ block_calls P old f vs v
    begins_call f n a vs v = ap (λ z. block_calls P z f vs v) begins.1 ∙ newer_call begins.0 old made f n a vs v

    pub begins_value : (e : Environment) (t : Term) (v : Object) → Formed (arities P old) t → HasValue P (block_calls P old) e t v → HasValue P (block_calls P D) e t v
    begins_value = ev_along (arities P old) P (block_calls P old) (block_calls P D) (λ f n vs v a h. subst (λ T. T) (sym (begins_call f n a vs v)) h)

    pub begins_value-back : (e : Environment) (t : Term) (v : Object) → Formed (arities P old) t → HasValue P (block_calls P D) e t v → HasValue P (block_calls P old) e t v
    begins_value-back = ev_along (arities P old) P (block_calls P D) (block_calls P old) (λ f n vs v a h. subst (λ T. T) (begins_call f n a vs v) h)
