-- What a block puts in front of an arity table, and its axioms in front of a list.
use Rattle.std.proofs.Common.{◌≡◌, Bool, true, false, cond, List, [], ◌∷◌, length, Option, Some, None, ◌⊎◌, inl, inr, refl, sym, ap, ◌∙◌, is_some}
use Rattle.mw_model.specs.Terms.Object.{Name, Object, Pair, same_name, Member, first, later}
use Rattle.mw_model.specs.Terms.Term.{Formula, ArityTable, arity_of, formula_object}
use Rattle.mw_model.specs.Values.Definition.{Function, Block, Functions, Choice, function_named, add_functions, add_block}
use Rattle.mw_model.specs.Values.Truth.{Each}
use Rattle.mw_model.specs.Events.Theory.{add_formulas}
use Rattle.mw_model.proofs.Older.{add_keeps}
use Rattle.mw_commands.proofs.BlockNames.{is_named}

-- ---- a block in front of two tables

functions_agree : (B : List Function) (A C : ArityTable) (f : Name) → arity_of A f ≡ arity_of C f → arity_of (add_functions B A) f ≡ arity_of (add_functions B C) f
functions_agree [] A C f h = h
functions_agree (g ∷ B) A C f h = functions_agree B ((g.name, length g.formals) ∷ A) ((g.name, length g.formals) ∷ C) f (ap (cond (same_name g.name f) (Some (length g.formals))) h)

functions_decide : (B : List Function) (A C : ArityTable) (f : Name) → is_some (function_named B f) ≡ true → arity_of (add_functions B A) f ≡ arity_of (add_functions B C) f
functions_decide [] A C f h = cc
functions_decide (g ∷ B) A C f h = go (same_name g.name f) refl h (functions_decide B ((g.name, length g.formals) ∷ A) ((g.name, length g.formals) ∷ C) f)
  where
    go : (b : Bool) → same_name g.name f ≡ b → is_some (cond b (Some g) (function_named B f)) ≡ true → (is_some (function_named B f) ≡ true → arity_of (add_functions (g ∷ B) A) f ≡ arity_of (add_functions (g ∷ B) C) f) → arity_of (add_functions (g ∷ B) A) f ≡ arity_of (add_functions (g ∷ B) C) f
    go true e k ih =
        functions_agree B ((g.name, length g.formals) ∷ A) ((g.name, length g.formals) ∷ C) f
        (ap (λ b. cond b (Some (length g.formals)) (arity_of A f)) e ∙ sym (ap (λ b. cond b (Some (length g.formals)) (arity_of C f)) e))
    go false e k ih = ih k

pub block_agrees : (B : Block) (A C : ArityTable) (f : Name) → arity_of A f ≡ arity_of C f → arity_of (add_block B A) f ≡ arity_of (add_block B C) f
block_agrees (Functions B) A C f h = functions_agree B A C f h
block_agrees (Choice g y xs b) A C f h = ap (cond (same_name g f) (Some (length xs))) h

pub block_decides : (B : Block) (A C : ArityTable) (f : Name) → is_named B f ≡ true → arity_of (add_block B A) f ≡ arity_of (add_block B C) f
block_decides (Functions B) A C f h = functions_decide B A C f h
block_decides (Choice g y xs b) A C f h = ap (λ t. cond t (Some (length xs)) (arity_of A f)) h ∙ sym (ap (λ t. cond t (Some (length xs)) (arity_of C f)) h)

pub block_keeps : (B : Block) (A : ArityTable) (f : Name) → is_named B f ≡ false → arity_of (add_block B A) f ≡ arity_of A f
block_keeps (Functions B) A f h = add_keeps B A f (none_there (function_named B f) h)
  where
    none_there : (o : Option Function) → is_some o ≡ false → o ≡ None
    none_there None k = refl
    none_there (Some g) k = cc
block_keeps (Choice g y xs b) A f h = ap (λ t. cond t (Some (length xs)) (arity_of A f)) h

-- ---- formulas in front of two lists

pub added_alike : (Q : Object → Type 0) (Fs : List Formula) (L M : Object) → ((x : Object) → Member x L → Member x M ⊎ Q x) → (x : Object) → Member x (add_formulas Fs L) → Member x (add_formulas Fs M) ⊎ Q x
added_alike Q [] L M f x h = f x h
added_alike Q (F ∷ Fs) L M f x h = added_alike Q Fs (Pair (formula_object F) L) (Pair (formula_object F) M) (λ y k. one_more (formula_object F) y k) x h
  where
    one_more : (c y : Object) → Member y (Pair c L) → Member y (Pair c M) ⊎ Q y
    one_more c y (first L') = inl (first M)
    one_more c y (later z L' m) = elim (f y m) as (λ o. Member y (Pair z M) ⊎ Q y) [ inl n ↦ inl (later z M n) | inr q ↦ inr q ]

pub added_or_old : (Q : Object → Type 0) (Fs : List Formula) (L : Object) → Each (λ F. Q (formula_object F)) Fs → (x : Object) → Member x (add_formulas Fs L) → Member x L ⊎ Q x
added_or_old Q [] L q x h = inl h
added_or_old Q (F ∷ Fs) L q x h = elim (added_or_old Q Fs (Pair (formula_object F) L) q.1 x h) as (λ o. Member x L ⊎ Q x) [ inl m ↦ here (formula_object F) q.0 x m | inr p ↦ inr p ]
  where
    here : (c : Object) → Q c → (y : Object) → Member y (Pair c L) → Member y L ⊎ Q y
    here c p y (first L') = inr p
    here c p y (later z L' m) = inl m
