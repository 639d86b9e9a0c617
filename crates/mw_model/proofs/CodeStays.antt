-- The code of a name has the name's arity, and a newer block changes no code.
use Rattle.std.proofs.Common.{◌≡◌, Bool, true, false, cond, List, [], ◌∷◌, length, Option, Some, None, refl, ap, ◌∙◌}
use Rattle.mw_model.specs.Terms.Object.{Name, same_name}
use Rattle.mw_model.specs.Terms.Term.{arity_of}
use Rattle.mw_model.specs.Values.Primitive.{Profile}
use Rattle.mw_model.specs.Values.Definition.{Function, Block, Functions, Choice, function_named, arities, are_blocks}
use Rattle.mw_model.specs.Events.Evaluation.{code_of}
use Rattle.std.specs.Option.{option_or}
use Rattle.mw_model.proofs.Older.{arity_here, not_known, not_named, functions_new, choice_new, arity_stays}

module _ (P : Profile) where
  pub code_arity : (D : List Block) → are_blocks P D ≡ true → (f : Name) (h : Function) → code_of D f ≡ Some h → arity_of (arities P D) f ≡ Some (length h.formals)
  code_arity [] w f h k = cc
  code_arity (Functions B ∷ D) w f h k = go (function_named B f) refl k (code_arity D (functions_new P B D w).2 f h)
    where
      go : (o : Option Function) → function_named B f ≡ o → option_or o (code_of D f) ≡ Some h → (code_of D f ≡ Some h → arity_of (arities P D) f ≡ Some (length h.formals)) → arity_of (arities P (Functions B ∷ D)) f ≡ Some (length h.formals)
      go (Some g) e q ih = arity_here B (arities P D) (arities P D) f h (functions_new P B D w).0 (e ∙ q)
      go None e q ih = arity_stays P (Functions B) D w f (length h.formals) (ih q)
  code_arity (Choice g y xs b ∷ D) w f h k = go (same_name g f) k (code_arity D (choice_new P g y xs b D w).1 f h)
    where
      go : (t : Bool) → cond t None (code_of D f) ≡ Some h → (code_of D f ≡ Some h → arity_of (arities P D) f ≡ Some (length h.formals)) → arity_of (arities P (Choice g y xs b ∷ D)) f ≡ Some (length h.formals)
      go true q ih = cc
      go false q ih = arity_stays P (Choice g y xs b) D w f (length h.formals) (ih q)

  pub code_stays : (B : Block) (D : List Block) → are_blocks P (B ∷ D) ≡ true → (f : Name) (h : Function) → code_of D f ≡ Some h → code_of (B ∷ D) f ≡ Some h
  code_stays (Functions B) D w f h k =
      let p = functions_new P B D w in
      ap (λ o. option_or o (code_of D f)) (not_named (arities P D) B f (length h.formals) p.0 (code_arity D p.2 f h k)) ∙ k
  code_stays (Choice g y xs b) D w f h k =
      let p = choice_new P g y xs b D w in
      ap (λ t. cond t None (code_of D f)) (not_known (arities P D) g f (length h.formals) p.0 (code_arity D p.1 f h k)) ∙ k
