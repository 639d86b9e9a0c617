-- What is shown of nested calls.
use Rattle.std.proofs.Common.{◌≡◌, ℕ, suc, true, List, [], ◌∷◌, map, Option, Some, None, is_some, option_map, option_to_list, unwrap_or, find, refl, sym, ap, ap₂, ◌∙◌}
use Rattle.mw_model.specs.Terms.Object.{Name, Object, Natural, Pair}
use Rattle.mw_model.specs.Terms.Term.{Call, ArityTable, term_object}
use Rattle.mw_model.specs.Values.Definition.{Function}
use Rattle.mw_model.specs.Events.Obligation.{RecursiveCall, recursive_calls}
use Rattle.mw_model.specs.Events.Expansion.{expand}
use Rattle.mw_model.specs.Events.Refusal.{NESTED}
use Rattle.mw_model.specs.Events.Admission.{Draft, all_of, new_name, new_names, formals_of, add_names, functions}
use Rattle.mw_heap.specs.Objects.{object_at, IsIn}
use Rattle.mw_define.specs.declared.nested_call.NestedCall.{NestedCall as Nested}
use Rattle.mw_define.specs.NestedCall.{nests, numbered, first_nested, the_functions, IsNestedFrom}
use Rattle.mw_commands.specs.Commands.Explanation.{nested_call, block_in, first_shown, drafts_shown}
use Rattle.mw_explain.specs.Drafts.{bodies_under}
use Rattle.mw_explain.proofs.DraftsShown.{that-some}

abbrev shown_of : Option (ℕ × RecursiveCall) → List Object
shown_of None = []
shown_of (Some p) = Natural p.0 ∷ term_object (Call p.1.function.name p.1.actuals) ∷ []

by-number : (B hs : List Function) (k : ℕ) → first_shown (nested_call B) k hs ≡ shown_of (first_nested B k hs)
by-number B [] k = refl
by-number B (h ∷ hs) k = go (find (nests B) (recursive_calls B h)) (by-number B hs (suc k))
  where
    go : (o : Option RecursiveCall) → first_shown (nested_call B) (suc k) hs ≡ shown_of (first_nested B (suc k) hs) → elim (option_to_list (option_map (λ r. term_object (Call r.function.name r.actuals)) o)) [ [] ↦ first_shown (nested_call B) (suc k) hs | y ∷ ys ↦ Natural k ∷ y ∷ ys ] ≡ shown_of (numbered k o (first_nested B (suc k) hs))
    go None more = more
    go (Some r) more = refl

some-of : {X : Type 0} (o : Option X) → is_some o ≡ true → (x : X) × (o ≡ Some x)
some-of None h = cc
some-of (Some x) h = (x, refl)

module _ (A : ArityTable) (ds : List Draft) (n : is_some (new_names A (map (λ d. d.name) ds)) ≡ true) (f : is_some (all_of formals_of (map (λ d. d.formals) ds)) ≡ true) where
  abbrev names : (fs : List Name) × (new_names A (map (λ d. d.name) ds) ≡ Some fs)
  names = some-of (new_names A (map (λ d. d.name) ds)) n

  abbrev formals : (xss : List (List Name)) × (all_of formals_of (map (λ d. d.formals) ds) ≡ Some xss)
  formals = some-of (all_of formals_of (map (λ d. d.formals) ds)) f

  block-same : the_functions A ds names.0 formals.0 ≡ block_in A (bodies_under true A ds) ds
  block-same =
      ap₂ (λ o p. functions (unwrap_or o []) (unwrap_or p []) (unwrap_or (all_of (expand (add_names (unwrap_or o []) (unwrap_or p []) A)) (map (λ d. d.body) ds)) []))
      (sym (that-some A ds (all_of (new_name A) (map (λ d. d.name) ds)) names.0 names.1)) (sym formals.1)

  shown-block : drafts_shown NESTED A (bodies_under true A ds) ds ≡ shown_of (first_nested (the_functions A ds names.0 formals.0) 1 (the_functions A ds names.0 formals.0))
  shown-block = ap (λ B. first_shown (nested_call B) 1 B) (sym block-same) ∙ by-number (the_functions A ds names.0 formals.0) (the_functions A ds names.0 formals.0) 1

  pub nothing-nested : (os : List Object) → IsNestedFrom A ds os None → drafts_shown NESTED A (bodies_under true A ds) ds ≡ []
  nothing-nested os h = shown-block ∙ ap shown_of (h names.0 formals.0 names.1 formals.1)

  pub something-nested : (os : List Object) (c : Nested) → IsNestedFrom A ds os (Some c) → Natural c.number ∷ Pair (object_at os c.name) (object_at os c.actuals) ∷ [] ≡ drafts_shown NESTED A (bodies_under true A ds) ds
  something-nested os c h =
      let g = h names.0 formals.0 names.1 formals.1 in
      ap₂ (λ x y. Natural c.number ∷ Pair x y ∷ []) g.2.name_is g.2.actuals_are ∙ sym (shown-block ∙ ap shown_of g.1)

  pub call-in : (os : List Object) (c : Nested) → IsNestedFrom A ds os (Some c) → IsIn os c.name × IsIn os c.actuals
  call-in os c h = let g = h names.0 formals.0 names.1 formals.1 in (g.2.name_in, g.2.actuals_in)
