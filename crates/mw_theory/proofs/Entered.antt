-- Entries are read as the blocks that they mean.
use Rattle.std.proofs.Common.{◌≡◌, ℕ, true, ◌&&◌, List, [], ◌∷◌, ◌++◌, refl, ap, ap₂, ◌∙◌}
use Rattle.std.proofs.lemmas.Bool.{and_parts}
use Rattle.mw_model.specs.Terms.Object.{Name, Object}
use Rattle.mw_model.specs.Terms.Term.{ArityTable, Term, are_formals, is_term, is_closed}
use Rattle.mw_model.specs.Terms.Reading.{names_of, term_of}
use Rattle.mw_model.specs.Values.Primitive.{Profile, name_of}
use Rattle.mw_model.specs.Values.Definition.{Function as Defined, Block, Functions, Choice, arities, add_functions, is_new, are_new, are_functions, is_some_function, is_block, are_blocks}
use Rattle.mw_model.proofs.Formed.{formed}
use Rattle.mw_model.proofs.Readable.{names_read}
use Rattle.mw_model.proofs.Read.{term_read}
use Rattle.mw_heap.specs.Objects.{object_at}
use Rattle.mw_preamble.specs.declared.definition.Definition.{Definition}
use Rattle.mw_preamble.specs.declared.definition.Definition.TheVariants.{Function, Witness}
use Rattle.mw_preamble.specs.Entries.{IsFunction, IsWitness, AreFunctions, IsBlock, AreEntries}
use Rattle.mw_theory.specs.Entered.{names_or_none, term_or_nil, function_read, functions_read, block_read, blocks_after, blocks_read}

module _ (os : List Object) where
  function-read : (A : ArityTable) (name formals body : ℕ) (h : Defined) → IsFunction os name formals body h → is_term A h.body ≡ true → function_read os name formals body ≡ h
  function-read A name formals body h i t =
      ap (λ n. record { name = n; formals = names_or_none (names_of (object_at os formals)); body = term_or_nil (term_of (object_at os body)) }) (ap name_of i.name_is)
      ∙ (ap (λ xs. record { name = h.name; formals = xs; body = term_or_nil (term_of (object_at os body)) }) (ap names_or_none (ap names_of i.formals_are ∙ names_read h.formals))
      ∙ ap (λ b. record { name = h.name; formals = h.formals; body = b }) (ap term_or_nil (ap term_of i.body_is ∙ term_read A h.body (formed A h.body t))))

  functions-read : (A : ArityTable) (ds : List Definition) (B : List Defined) → AreFunctions os ds B → are_functions A B ≡ true → functions_read os ds ≡ B
  functions-read A [] [] h w = refl
  functions-read A (Function name formals body ∷ ds) (k ∷ B) h w =
      let rest = and_parts (is_term A k.body) (is_closed k.formals k.body && are_functions A B) (and_parts (are_formals k.formals) (is_term A k.body && (is_closed k.formals k.body && are_functions A B)) w).1 in
      ap₂ (λ f fs. f ∷ fs) (function-read A name formals body k h.0 rest.0) (functions-read A ds B h.1 (and_parts (is_closed k.formals k.body) (are_functions A B) rest.1).1)
  functions-read A [] (k ∷ B) h w = absurd h
  functions-read A (Function name formals body ∷ ds) [] h w = absurd h
  functions-read A (Witness name bound free body ∷ ds) [] h w = absurd h
  functions-read A (Witness name bound free body ∷ ds) (k ∷ B) h w = absurd h

  -- a block of functions
  functions-block : (A : ArityTable) (ds : List Definition) (B : List Defined) → AreFunctions os ds B → are_functions A B ≡ true → block_read os ds ≡ Functions B
  functions-block A [] B h w = ap Functions (functions-read A [] B h w)
  functions-block A (Function name formals body ∷ ds) B h w = ap Functions (functions-read A (Function name formals body ∷ ds) B h w)
  functions-block A (Witness name bound free body ∷ ds) [] h w = absurd h
  functions-block A (Witness name bound free body ∷ ds) (k ∷ B) h w = absurd h

  witness-read : (A : ArityTable) (name bound free body : ℕ) (g y : Name) (xs : List Name) (b : Term) → IsWitness os name bound free body g y xs b → is_term A b ≡ true → block_read os (Witness name bound free body ∷ []) ≡ Choice g y xs b
  witness-read A name bound free body g y xs b i t =
      ap (λ n. Choice n (name_of (object_at os bound)) (names_or_none (names_of (object_at os free))) (term_or_nil (term_of (object_at os body)))) (ap name_of i.name_is)
      ∙ (ap (λ n. Choice g n (names_or_none (names_of (object_at os free))) (term_or_nil (term_of (object_at os body)))) (ap name_of i.bound_is)
      ∙ (ap (λ ys. Choice g y ys (term_or_nil (term_of (object_at os body)))) (ap names_or_none (ap names_of i.free_are ∙ names_read xs))
      ∙ ap (Choice g y xs) (ap term_or_nil (ap term_of i.body_is ∙ term_read A b (formed A b t)))))

  block-read : (A : ArityTable) (ds : List Definition) (B : Block) → IsBlock os ds B → is_block A B ≡ true → block_read os ds ≡ B
  block-read A ds (Functions B) h w =
      functions-block (add_functions B A) ds B h (and_parts (are_new A B) (are_functions (add_functions B A) B) (and_parts (is_some_function B) (are_new A B && are_functions (add_functions B A) B) w).1).1
  block-read A (Witness name bound free body ∷ []) (Choice g y xs b) h w =
      witness-read A name bound free body g y xs b h
      (and_parts (is_term A b) (is_closed (y ∷ xs) b) (and_parts (are_formals (y ∷ xs)) (is_term A b && is_closed (y ∷ xs) b) (and_parts (is_new A g) (are_formals (y ∷ xs) && (is_term A b && is_closed (y ∷ xs) b)) w).1).1).0
  block-read A [] (Choice g y xs b) h w = absurd h
  block-read A (Function name formals body ∷ ds) (Choice g y xs b) h w = absurd h
  block-read A (Witness name bound free body ∷ d ∷ ds) (Choice g y xs b) h w = absurd h

  -- the newest entry is read as the newest block
  pub after-one : (D : List Block) (es : List (List Definition)) (ds : List Definition) → blocks_after os D (es ++ ds ∷ []) ≡ block_read os ds ∷ blocks_after os D es
  after-one D [] ds = refl
  after-one D (e ∷ es) ds = after-one (block_read os e ∷ D) es ds

  pub blocks-read : (P : Profile) (es : List (List Definition)) (D : List Block) → AreEntries os es D → are_blocks P D ≡ true → blocks_read os es ≡ D
  blocks-read P es [] h w = ap (blocks_read os) h
  blocks-read P es (B ∷ D) h w =
      let parts = and_parts (is_block (arities P D) B) (are_blocks P D) w in
      ap (blocks_read os) h.2
      ∙ (after-one [] h.0 h.1 ∙ ap₂ (λ C E. C ∷ E) (block-read (arities P D) h.1 B h.3 parts.0) (blocks-read P h.0 D h.4 parts.1))
