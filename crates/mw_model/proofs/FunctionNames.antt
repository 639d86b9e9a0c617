-- A name in the arity table of well-made definitions is a function name.
use Rattle.std.proofs.Common.{◌≡◌, ℕ, Bool, true, false, ◌&&◌, cond, List, [], ◌∷◌, length, Some, refl, subst, is_none}
use Rattle.std.proofs.lemmas.Bool.{and_parts, and_from}
use Rattle.mw_model.specs.Terms.Object.{Name, same_name}
use Rattle.mw_model.specs.Terms.Term.{ArityTable, arity_of, is_function_name}
use Rattle.mw_model.specs.Values.Primitive.{Profile, One, Two, primitive_arities}
use Rattle.mw_model.specs.Values.Definition.{Function, Block, Functions, Choice, function_named, add_functions, arities, is_new, are_new, are_blocks}
use Rattle.mw_model.proofs.Names.{same_name-eq}
use Rattle.mw_model.proofs.Older.{functions_new, choice_new}

are_function_names : ArityTable → Bool
are_function_names [] = true
are_function_names (p ∷ A) = is_function_name p.0 && are_function_names A

found : (A : ArityTable) → are_function_names A ≡ true → (f : Name) (n : ℕ) → arity_of A f ≡ Some n → is_function_name f ≡ true
unfolding are_function_names
found [] h f n a = cc
found (p ∷ A) h f n a = go (same_name p.0 f) refl a (found A q.1 f n)
  where
    q : (is_function_name p.0 ≡ true) × (are_function_names A ≡ true)
    q = and_parts (is_function_name p.0) (are_function_names A) h

    go : (t : Bool) → same_name p.0 f ≡ t → cond t (Some p.1) (arity_of A f) ≡ Some n → (arity_of A f ≡ Some n → is_function_name f ≡ true) → is_function_name f ≡ true
    go true e a ih = subst (λ g. is_function_name g ≡ true) (same_name-eq p.0 f e) q.0
    go false e a ih = ih a

primitive_names : (P : Profile) → are_function_names (primitive_arities P) ≡ true
unfolding are_function_names
primitive_names One = refl
primitive_names Two = refl

new_names : (B : List Function) (A C : ArityTable) → are_new C B ≡ true → are_function_names A ≡ true → are_function_names (add_functions B A) ≡ true
unfolding are_function_names
new_names [] A C w h = h
new_names (g ∷ B) A C w h =
    let p = and_parts (is_new C g.name) (is_none (function_named B g.name) && are_new C B) w in
    let q = and_parts (is_none (function_named B g.name)) (are_new C B) p.1 in
    let r = and_parts (is_function_name g.name) (is_none (arity_of C g.name)) p.0 in
    new_names B ((g.name, length g.formals) ∷ A) C q.1 (and_from (is_function_name g.name) (are_function_names A) r.0 h)

module _ (P : Profile) where
  block_names : (D : List Block) → are_blocks P D ≡ true → are_function_names (arities P D) ≡ true
  unfolding are_function_names
  block_names [] w = primitive_names P
  block_names (Functions B ∷ D) w = let p = functions_new P B D w in new_names B (arities P D) (arities P D) p.0 (block_names D p.2)
  block_names (Choice g y xs b ∷ D) w =
      let p = choice_new P g y xs b D w in
      and_from (is_function_name g) (are_function_names (arities P D)) (and_parts (is_function_name g) (is_none (arity_of (arities P D) g)) p.0).0 (block_names D p.1)

  pub table_names : (D : List Block) → are_blocks P D ≡ true → (f : Name) (n : ℕ) → arity_of (arities P D) f ≡ Some n → is_function_name f ≡ true
  table_names D w f n a = found (arities P D) (block_names D w) f n a
