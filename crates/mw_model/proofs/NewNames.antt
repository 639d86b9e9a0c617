-- A new name is no primitive's, and neither IF nor QUOTE; each name of a block that is well made was new.
use Rattle.std.proofs.Common.{◌≡◌, Bool, true, false, ◌&&◌, not, cond, List, [], ◌∷◌, length, Option, Some, None, refl, sym, ap, ap₂, ◌∙◌, subst, is_some, is_none}
use Rattle.std.proofs.lemmas.Bool.{and_parts, false≢true}
use Rattle.mw_model.specs.Terms.Object.{Name, named, same_name}
use Rattle.mw_model.specs.Terms.Term.{ArityTable, arity_of, is_function_name, is_call_name}
use Rattle.mw_model.specs.Values.Primitive.{Profile, One, Two, Primitive, Times, primitive_name, primitive_arity, shared_primitives, primitive_among, or_product, primitive_named, add_primitives, primitive_arities}
use Rattle.mw_model.specs.Values.Definition.{Function, Block, Functions, Choice, function_named, add_functions, arities, is_new, are_new, are_blocks}
use Rattle.mw_model.specs.Values.Truth.{Each}
use Rattle.mw_model.proofs.Names.{same_name-eq, same_name-refl}
use Rattle.mw_model.proofs.Older.{cond_none, not_named, arity_stays, functions_new, choice_new}

pub none_some : {X : Type 0} (x : X) → None ≡ Some x → ⊥
none_some x h = cc

absent_none : {X : Type 0} (o : Option X) → is_none o ≡ true → o ≡ None
absent_none None h = refl
absent_none (Some x) h = absurd (false≢true h)

pub new_absent : (A : ArityTable) (f : Name) → is_new A f ≡ true → arity_of A f ≡ None
new_absent A f h = absent_none (arity_of A f) (and_parts (is_function_name f) (is_none (arity_of A f)) h).1

-- the primitives
primitives_none : (ps : List Primitive) (A : ArityTable) (f : Name) → arity_of (add_primitives ps A) f ≡ None → (primitive_among ps f ≡ None) × (arity_of A f ≡ None)
primitives_none [] A f h = (refl, h)
primitives_none (p ∷ ps) A f h =
    let r = primitives_none ps ((primitive_name p, primitive_arity p) ∷ A) f h in
    let q = cond_none (same_name (primitive_name p) f) (primitive_arity p) (arity_of A f) r.1 in
    (ap (λ b. cond b (Some p) (primitive_among ps f)) q.0 ∙ r.0, q.1)

abbrev just_if : ArityTable
just_if = (named "IF", 3) ∷ []

none_none : (b : Bool) → cond {A = Option Primitive} b None None ≡ None
none_none true = refl
none_none false = refl

primitive_none : (P : Profile) (f : Name) → arity_of (primitive_arities P) f ≡ None → primitive_named P f ≡ None
primitive_none One f h = ap (or_product One f) (primitives_none shared_primitives just_if f h).0 ∙ none_none (same_name (primitive_name Times) f)
primitive_none Two f h =
    let q = cond_none (same_name (primitive_name Times) f) (primitive_arity Times) (arity_of (add_primitives shared_primitives just_if) f) h in
    ap (or_product Two f) (primitives_none shared_primitives just_if f q.1).0 ∙ ap (λ b. cond b (Some Times) None) q.0

-- what a table lacks, the tables before it lack
add_none : (B : List Function) (A : ArityTable) (f : Name) → arity_of (add_functions B A) f ≡ None → arity_of A f ≡ None
add_none [] A f h = h
add_none (g ∷ B) A f h = (cond_none (same_name g.name f) (length g.formals) (arity_of A f) (add_none B ((g.name, length g.formals) ∷ A) f h)).1

pub none_below : (P : Profile) (D : List Block) (f : Name) → arity_of (arities P D) f ≡ None → arity_of (primitive_arities P) f ≡ None
none_below P [] f h = h
none_below P (Functions B ∷ D) f h = none_below P D f (add_none B (arities P D) f h)
none_below P (Choice g y xs b ∷ D) f h = none_below P D f (cond_none (same_name g f) (length xs) (arity_of (arities P D) f) h).1

pub new_no_primitive : (P : Profile) (D : List Block) (f : Name) → is_new (arities P D) f ≡ true → primitive_named P f ≡ None
new_no_primitive P D f h = primitive_none P f (none_below P D f (new_absent (arities P D) f h))

-- IF and QUOTE
if_arity : (P : Profile) → arity_of (primitive_arities P) (named "IF") ≡ Some 3
if_arity One = refl
if_arity Two = refl

pub if_known : (P : Profile) (D : List Block) → are_blocks P D ≡ true → arity_of (arities P D) (named "IF") ≡ Some 3
if_known P [] w = if_arity P
if_known P (Functions B ∷ D) w = arity_stays P (Functions B) D w (named "IF") 3 (if_known P D (functions_new P B D w).2)
if_known P (Choice g y xs b ∷ D) w = arity_stays P (Choice g y xs b) D w (named "IF") 3 (if_known P D (choice_new P g y xs b D w).1)

not_if : (P : Profile) (f : Name) → arity_of (primitive_arities P) f ≡ None → same_name f (named "IF") ≡ false
not_if P f h = go (same_name f (named "IF")) refl
  where
    go : (b : Bool) → same_name f (named "IF") ≡ b → b ≡ false
    go true e = absurd (none_some 3 (sym h ∙ (ap (arity_of (primitive_arities P)) (same_name-eq f (named "IF") e) ∙ if_arity P)))
    go false e = refl

not_quote : (f : Name) → is_function_name f ≡ true → same_name f (named "QUOTE") ≡ false
not_quote f h = go (same_name f (named "QUOTE")) refl
  where
    go : (b : Bool) → same_name f (named "QUOTE") ≡ b → b ≡ false
    go true e = absurd (false≢true (subst (λ z. is_function_name z ≡ true) (same_name-eq f (named "QUOTE") e) h))
    go false e = refl

pub new_call_name : (P : Profile) (D : List Block) (f : Name) → is_new (arities P D) f ≡ true → is_call_name f ≡ true
new_call_name P D f h =
    ap₂ (λ q i. not q && not i) (not_quote f (and_parts (is_function_name f) (is_none (arity_of (arities P D) f)) h).0)
    (not_if P f (none_below P D f (new_absent (arities P D) f h)))

-- the names of a block
pub each_new : (A : ArityTable) (B : List Function) → are_new A B ≡ true → Each (λ h. is_new A h.name ≡ true) B
each_new A [] w = tt
each_new A (h ∷ B) w =
    let p = and_parts (is_new A h.name) (is_none (function_named B h.name) && are_new A B) w in
    (p.0, each_new A B (and_parts (is_none (function_named B h.name)) (are_new A B) p.1).1)

pub no_if : (P : Profile) (B : List Function) (D : List Block) → are_blocks P (Functions B ∷ D) ≡ true → is_some (function_named B (named "IF")) ≡ false
no_if P B D w = ap is_some (not_named (arities P D) B (named "IF") 3 (functions_new P B D w).0 (if_known P D (functions_new P B D w).2))

-- each function of the block is the one that its name finds, since the names are distinct
pub each_found : (A : ArityTable) (B : List Function) → are_new A B ≡ true → Each (λ h. function_named B h.name ≡ Some h) B
each_found A [] w = tt
each_found A (g ∷ B) w =
    let p = and_parts (is_new A g.name) (is_none (function_named B g.name) && are_new A B) w in
    let q = and_parts (is_none (function_named B g.name)) (are_new A B) p.1 in
    (ap (λ b. cond b (Some g) (function_named B g.name)) (same_name-refl g.name), others B (absent_none (function_named B g.name) q.0) (each_found A B q.1))
  where
    other : (h : Function) → function_named B g.name ≡ None → function_named B h.name ≡ Some h → (b : Bool) → same_name g.name h.name ≡ b → cond b (Some g) (function_named B h.name) ≡ Some h
    other h n f true e = absurd (none_some h (sym n ∙ (ap (function_named B) (same_name-eq g.name h.name e) ∙ f)))
    other h n f false e = f

    others : (hs : List Function) → function_named B g.name ≡ None → Each (λ h. function_named B h.name ≡ Some h) hs → Each (λ h. function_named (g ∷ B) h.name ≡ Some h) hs
    others [] n f = tt
    others (h ∷ hs) n f = (other h n f.0 (same_name g.name h.name) refl, others hs n f.1)
