-- The names that blocks define are those of the arity table other than IF and the primitives.
use Rattle.std.proofs.Common.{◌≡◌, ◌≢◌, ℕ, Bool, true, false, ◌||◌, cond, List, [], ◌∷◌, length, Option, Some, None, refl, sym, ap, ◌∙◌, subst, ◌⊎◌, inl, inr, ⊎_elim, is_some}
use Rattle.std.proofs.lemmas.Bool.{or_cases, both_ways, false≢true}
use Rattle.mw_model.specs.Terms.Object.{Name, named, same_name}
use Rattle.mw_model.specs.Terms.Term.{ArityTable, arity_of, is_call_name}
use Rattle.mw_model.specs.Values.Primitive.{Profile, One, Two, Primitive, Times, or_product, primitive_name, primitive_arity, primitive_among, primitive_named, primitive_arities, add_primitives, shared_primitives}
use Rattle.mw_model.specs.Values.Definition.{Function, Block, Functions, Choice, function_named, add_functions, arities}
use Rattle.mw_model.specs.Laws.CallDepth.{is_defined}
use Rattle.mw_model.proofs.Names.{name_cases}
use Rattle.mw_model.proofs.Older.{add_keeps}

not_if : (f : Name) → is_call_name f ≡ true → same_name (named "IF") f ≡ false
not_if f c = go (name_cases (named "IF") f)
  where
    go : ((same_name (named "IF") f ≡ true) × (named "IF" ≡ f)) ⊎ ((same_name (named "IF") f ≡ false) × (named "IF" ≢ f)) → same_name (named "IF") f ≡ false
    go (inl q) = absurd (both_ways (is_call_name (named "IF")) refl (subst (λ g. is_call_name g ≡ true) (sym q.1) c))
    go (inr q) = q.0

if_table : (f : Name) → is_call_name f ≡ true → arity_of ((named "IF", 3) ∷ []) f ≡ None
if_table f c = ap (λ t. cond t (Some 3) None) (not_if f c)

-- what is none of these primitives keeps its arity
primitives_keep : (ps : List Primitive) (A : ArityTable) (f : Name) → primitive_among ps f ≡ None → arity_of (add_primitives ps A) f ≡ arity_of A f
primitives_keep [] A f o = refl
primitives_keep (p ∷ ps) A f o = go (same_name (primitive_name p) f) refl o (primitives_keep ps ((primitive_name p, primitive_arity p) ∷ A) f)
  where
    go : (t : Bool) → same_name (primitive_name p) f ≡ t → cond t (Some p) (primitive_among ps f) ≡ None → (primitive_among ps f ≡ None → arity_of (add_primitives ps ((primitive_name p, primitive_arity p) ∷ A)) f ≡ arity_of ((primitive_name p, primitive_arity p) ∷ A) f) → arity_of (add_primitives ps ((primitive_name p, primitive_arity p) ∷ A)) f ≡ arity_of A f
    go true e n ih = cc
    go false e n ih = ih n ∙ ap (λ t. cond t (Some (primitive_arity p)) (arity_of A f)) e

or_product-none : (P : Profile) (f : Name) → primitive_named P f ≡ None → primitive_among shared_primitives f ≡ None
or_product-none P f o = go (primitive_among shared_primitives f) o
  where
    go : (q : Option Primitive) → or_product P f q ≡ None → q ≡ None
    go None e = refl
    go (Some p) e = cc

-- the arity table of no blocks has IF and the primitives alone
primitive_arities-none : (P : Profile) (f : Name) → is_call_name f ≡ true → primitive_named P f ≡ None → arity_of (primitive_arities P) f ≡ None
primitive_arities-none One f c o = primitives_keep shared_primitives ((named "IF", 3) ∷ []) f (or_product-none One f o) ∙ if_table f c
primitive_arities-none Two f c o = go (primitive_among shared_primitives f) refl o
  where
    go : (q : Option Primitive) → primitive_among shared_primitives f ≡ q → or_product Two f q ≡ None → arity_of (primitive_arities Two) f ≡ None
    go (Some p) e k = cc
    go None e k = product (same_name (primitive_name Times) f) k
      where
        product : (t : Bool) → cond t (Some Times) None ≡ None → cond t (Some 2) (arity_of (add_primitives shared_primitives ((named "IF", 3) ∷ [])) f) ≡ None
        product true k = cc
        product false k = primitives_keep shared_primitives ((named "IF", 3) ∷ []) f e ∙ if_table f c

module _ (P : Profile) where
  pub arity_defined : (D : List Block) (f : Name) (n : ℕ) → is_call_name f ≡ true → primitive_named P f ≡ None → arity_of (arities P D) f ≡ Some n → is_defined D f ≡ true
  arity_defined [] f n c o a = cc (primitive_arities-none P f c o)
  arity_defined (Functions B ∷ D) f n c o a = go (function_named B f) refl (arity_defined D f n c o)
    where
      go : (q : Option Function) → function_named B f ≡ q → (arity_of (arities P D) f ≡ Some n → is_defined D f ≡ true) → is_some q || is_defined D f ≡ true
      go (Some h) e ih = refl
      go None e ih = ih (sym (add_keeps B (arities P D) f e) ∙ a)
  arity_defined (Choice g y xs b ∷ D) f n c o a = go (same_name g f) a (arity_defined D f n c o)
    where
      go : (t : Bool) → cond t (Some (length xs)) (arity_of (arities P D) f) ≡ Some n → (arity_of (arities P D) f ≡ Some n → is_defined D f ≡ true) → t || is_defined D f ≡ true
      go true e ih = refl
      go false e ih = ih e

  -- a defined name has an arity
  abbrev pub HasArity : ArityTable → Name → Type 0
  HasArity A f = (n : ℕ) × (arity_of A f ≡ Some n)

  one_more : (A : ArityTable) (g f : Name) (n : ℕ) → (same_name g f ≡ true) ⊎ HasArity A f → HasArity ((g, n) ∷ A) f
  one_more A g f n h = go (same_name g f) h
    where
      go : (t : Bool) → (t ≡ true) ⊎ HasArity A f → (m : ℕ) × (cond t (Some n) (arity_of A f) ≡ Some m)
      go true h = (n, refl)
      go false (inl e) = absurd (false≢true e)
      go false (inr h) = h

  functions_arity : (B : List Function) (A : ArityTable) (f : Name) → (is_some (function_named B f) ≡ true) ⊎ HasArity A f → HasArity (add_functions B A) f
  functions_arity [] A f (inl e) = absurd (false≢true e)
  functions_arity [] A f (inr h) = h
  functions_arity (g ∷ B) A f h = functions_arity B ((g.name, length g.formals) ∷ A) f (go (same_name g.name f) refl h)
    where
      go : (t : Bool) → same_name g.name f ≡ t → (is_some (cond t (Some g) (function_named B f)) ≡ true) ⊎ HasArity A f → (is_some (function_named B f) ≡ true) ⊎ HasArity ((g.name, length g.formals) ∷ A) f
      go true e h = inr (one_more A g.name f (length g.formals) (inl e))
      go false e (inl p) = inl p
      go false e (inr h) = inr (one_more A g.name f (length g.formals) (inr h))

  pub defined_arity : (D : List Block) (f : Name) → is_defined D f ≡ true → HasArity (arities P D) f
  defined_arity [] f h = absurd (false≢true h)
  defined_arity (Functions B ∷ D) f h = functions_arity B (arities P D) f (⊎_elim inl (λ p. inr (defined_arity D f p)) (or_cases (is_some (function_named B f)) (is_defined D f) h))
  defined_arity (Choice g y xs b ∷ D) f h = one_more (arities P D) g f (length xs) (⊎_elim inl (λ p. inr (defined_arity D f p)) (or_cases (same_name g f) (is_defined D f) h))
