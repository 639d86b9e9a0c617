-- What is shown, reference by reference.
use Rattle.std.proofs.Common.{◌≡◌, ℕ, true, false, eqb, List, [], ◌∷◌, length, map, All, option_map, option_to_list, refl, sym, ap, ap₂, ◌∙◌, subst, eqb-true}
use Rattle.std.proofs.lemmas.List.{nil_from_length}
use Rattle.std.proofs.lemmas.List.Elements.{All-nil, All-cons, All-head, All-tail}
use Rattle.mw_model.specs.Terms.Object.{Object, Natural, Symbol, Pair}
use Rattle.mw_model.specs.Terms.Term.{ArityTable, arity_of}
use Rattle.mw_model.specs.Values.Primitive.{is_symbol, name_of}
use Rattle.mw_heap.specs.Objects.{object_at, IsIn, Grows}
use Rattle.mw_heap.proofs.Objects.{IsIn-Grows, object_at-Grows}
use Rattle.mw_commands.specs.Commands.ExplanationTerms.{arity_shown}
use Rattle.mw_commands.specs.Commands.Explanation.{or_else_shown}
use Rattle.mw_bad_steps.specs.Shown.{Shows}

pub symbol-arity : (A : ArityTable) (x : Object) → is_symbol x ≡ true → option_to_list (option_map Natural (arity_of A (name_of x))) ≡ arity_shown A x
symbol-arity A (Natural n) h = cc
symbol-arity A (Symbol f) h = refl
symbol-arity A (Pair a b) h = cc

module _ (old new : List Object) (g : Grows old new) where
  in-Grows : (rs : List ℕ) → All (IsIn old) rs → All (IsIn new) rs
  in-Grows [] h = All-nil (IsIn new)
  in-Grows (r ∷ rs) h = All-cons (IsIn new) r rs (IsIn-Grows old new g r (All-head (IsIn old) r rs h)) (in-Grows rs (All-tail (IsIn old) r rs h))

  objects-Grows : (rs : List ℕ) → All (IsIn old) rs → map (object_at new) rs ≡ map (object_at old) rs
  objects-Grows [] h = refl
  objects-Grows (r ∷ rs) h = ap₂ (λ x xs. x ∷ xs) (object_at-Grows old new g r (All-head (IsIn old) r rs h)) (objects-Grows rs (All-tail (IsIn old) r rs h))

  -- what is shown stays so as the heap grows, and one more comes in front
  pub shows-Grows : (rs : List ℕ) (xs : List Object) → Shows old rs xs → Shows new rs xs
  shows-Grows rs xs h = (in-Grows rs h.0, objects-Grows rs h.0 ∙ h.1)

  pub shows-first : (r : ℕ) (x : Object) (rs more : List ℕ) (xs : List Object) → IsIn new r → object_at new r ≡ x → more ≡ r ∷ rs → Shows old rs xs → Shows new more (x ∷ xs)
  shows-first r x rs more xs i e k h =
      let s = shows-Grows rs xs h in
      subst (λ l. Shows new l (x ∷ xs)) (sym k) (All-cons (IsIn new) r rs i s.0, ap₂ (λ y ys. y ∷ ys) e s.1)

pub shows-none : (os : List Object) (rs : List ℕ) → rs ≡ [] → Shows os rs []
shows-none os rs e = subst (λ l. Shows os l []) (sym e) (All-nil (IsIn os), refl)

-- something was shown, or nothing
pub or_else-first : (os : List Object) (rs : List ℕ) (xs ys : List Object) → eqb (length rs) 0 ≡ false → Shows os rs xs → Shows os rs (or_else_shown xs ys)
or_else-first os [] xs ys e h = cc
or_else-first os (r ∷ rs) [] ys e h = cc
or_else-first os (r ∷ rs) (x ∷ xs) ys e h = h

pub shown-empty : (os : List Object) (rs : List ℕ) (xs : List Object) → eqb (length rs) 0 ≡ true → Shows os rs xs → xs ≡ []
shown-empty os rs xs e h = sym h.1 ∙ ap (map (object_at os)) (nil_from_length rs (eqb-true (length rs) 0 e))
