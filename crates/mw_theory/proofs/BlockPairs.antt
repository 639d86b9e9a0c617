-- The names of a block, each with the number of its formals.
use Rattle.std.proofs.Common.{◌≡◌, ℕ, zero, suc, ◌<◌, Bool, true, false, ◌&&◌, not, cond, List, [], ◌∷◌, ◌++◌, length, map, take, get_or, Option, Some, None, option_map, refl, sym, ap, ap₂, ◌∙◌, arith, append_assoc, is_none}
use Rattle.std.specs.List.{All}
use Rattle.std.proofs.lemmas.Bool.{and_parts, and_from}
use Rattle.std.proofs.lemmas.List.Elements.{All-cons, All-nil}
use Rattle.mw_model.specs.Terms.Object.{Name, Object, Symbol, same_name}
use Rattle.mw_model.specs.Terms.Term.{ArityTable, names_object, arity_of, is_function_name, is_among, is_variable, are_variables, are_distinct, are_formals, is_term, is_closed}
use Rattle.mw_model.specs.Terms.Reading.{names_of}
use Rattle.mw_model.specs.Values.Primitive.{is_symbol, name_of}
use Rattle.mw_model.specs.Values.Definition.{Function as Defined, Block, Functions, Choice, function_named, add_functions, is_new, is_some_function, are_new, are_functions, is_block}
use Rattle.mw_model.proofs.Names.{same_name-eq, same_name-refl}
use Rattle.mw_model.proofs.Readable.{names_read}
use Rattle.mw_heap.specs.Objects.{object_at, IsIn, Grows}
use Rattle.mw_heap.proofs.Objects.{IsIn-Grows, object_at-Grows}
use Rattle.mw_term.specs.Parts.{if_formals, formals_of, names_at}
use Rattle.mw_translate.specs.Expands.{ArePairsOfSymbols, with_pairs}
use Rattle.mw_code.specs.Coded.{members}
use Rattle.mw_preamble.specs.declared.definition.Definition.{Definition}
use Rattle.mw_preamble.specs.declared.definition.Definition.TheVariants.{Function, Witness}
use Rattle.mw_preamble.specs.Defining.{spelling_of}
use Rattle.mw_preamble.specs.Entries.{AreFunctions, IsBlock}
use Rattle.mw_theory.specs.Entered.{names_or_none}
use Rattle.mw_theory.specs.Adding.{formal_count, pair_of, AreNew, EndsWith}

-- the number of formals
length-names : (os : List Object) (rs : List ℕ) → length (names_at os rs) ≡ length rs
length-names os [] = refl
length-names os (r ∷ rs) = ap suc (length-names os rs)

pub formals_counted : (os : List Object) (x : ℕ) (o : Option (List ℕ)) (rs : List ℕ) → option_map (names_at os) o ≡ formals_of (object_at os x) → o ≡ Some rs → length rs ≡ formal_count (object_at os x)
formals_counted os x o rs h e = sym (length-names os rs) ∙ ap (λ z. length (names_or_none z)) (sym (ap (option_map (names_at os)) e) ∙ h)

formals-count : (xs : List Name) (x : Object) → x ≡ names_object xs → are_formals xs ≡ true → formal_count x ≡ length xs
formals-count xs x e w =
    ap (λ o. length (names_or_none (if_formals o))) (ap names_of e ∙ names_read xs)
    ∙ ap (λ b. length (names_or_none (cond b (Some xs) None))) w

module _ (os : List Object) where
  pub new-at : (ps : List (ℕ × ℕ)) (i : ℕ) (d : ℕ × ℕ) (A : ArityTable) → AreNew os A ps → i < length ps → arity_of (with_pairs os (take i ps) A) (name_of (object_at os (get_or ps i d).0)) ≡ None
  new-at [] i d A h l = absurd (omega arith)
  new-at (p ∷ ps) zero d A h l = h.0
  new-at (p ∷ ps) (suc i) d A h l = new-at ps i d ((name_of (object_at os p.0), p.1) ∷ A) h.1 (omega arith)

  pub with_pairs-EndsWith : (ps : List (ℕ × ℕ)) (A : ArityTable) → EndsWith (with_pairs os ps A) A
  with_pairs-EndsWith [] A = ([], refl)
  with_pairs-EndsWith (p ∷ ps) A =
      let q : Name × ℕ = (name_of (object_at os p.0), p.1) in
      let r = with_pairs-EndsWith ps (q ∷ A) in
      (r.0 ++ q ∷ [], r.1 ∙ sym (append_assoc r.0 (q ∷ []) A))

-- the pair of a function or a witness
pub record IsPair (os : List Object) (p : ℕ × ℕ) (h : Defined) : Type 0 where
  pub name_in : IsIn os p.0
  pub name_is : object_at os p.0 ≡ Symbol h.name
  pub count : p.1 ≡ length h.formals

abbrev pub ArePairs : List Object → List (ℕ × ℕ) → List Defined → Type 0
ArePairs os [] [] = Unit {0}
ArePairs os (p ∷ ps) (h ∷ B) = IsPair os p h × ArePairs os ps B
ArePairs os _ _ = ⊥

-- the pairs of a block that is well made
module _ (os : List Object) where
  function-pairs : (A : ArityTable) (ds : List Definition) (B : List Defined) → AreFunctions os ds B → are_functions A B ≡ true → ArePairs os (map (pair_of os) ds) B
  function-pairs A [] [] f w = tt
  function-pairs A (Function name formals body ∷ ds) (h ∷ B) f w =
      let q = and_parts (are_formals h.formals) (is_term A h.body && (is_closed h.formals h.body && are_functions A B)) w in
      let r = and_parts (is_term A h.body) (is_closed h.formals h.body && are_functions A B) q.1 in
      let rest = (and_parts (is_closed h.formals h.body) (are_functions A B) r.1).1 in
      (record { name_in = f.0.name_in; name_is = f.0.name_is; count = formals-count h.formals (object_at os formals) f.0.formals_are q.0 }, function-pairs A ds B f.1 rest)
  function-pairs A [] (h ∷ B) f w = absurd f
  function-pairs A (Function name formals body ∷ ds) [] f w = absurd f
  function-pairs A (Witness name bound free body ∷ ds) [] f w = absurd f
  function-pairs A (Witness name bound free body ∷ ds) (h ∷ B) f w = absurd f

  formals-fewer : (y : Name) (xs : List Name) → are_formals (y ∷ xs) ≡ true → are_formals xs ≡ true
  formals-fewer y xs w =
      let p = and_parts (is_variable y && are_variables xs) (not (is_among y xs) && are_distinct xs) w in
      and_from (are_variables xs) (are_distinct xs) (and_parts (is_variable y) (are_variables xs) p.0).1 (and_parts (not (is_among y xs)) (are_distinct xs) p.1).1

  pub block_pairs : (A : ArityTable) (ds : List Definition) (B : Block) → IsBlock os ds B → is_block A B ≡ true → ArePairs os (map (pair_of os) ds) (members B)
  block_pairs A ds (Functions B) h w =
      let q = and_parts (is_some_function B) (are_new A B && are_functions (add_functions B A) B) w in
      function-pairs (add_functions B A) ds B h (and_parts (are_new A B) (are_functions (add_functions B A) B) q.1).1
  block_pairs A (Witness name bound free body ∷ []) (Choice g y xs b) h w =
      let q = and_parts (is_new A g) (are_formals (y ∷ xs) && (is_term A b && is_closed (y ∷ xs) b)) w in
      let r = and_parts (are_formals (y ∷ xs)) (is_term A b && is_closed (y ∷ xs) b) q.1 in
      (record { name_in = h.name_in; name_is = h.name_is; count = formals-count xs (object_at os free) h.free_are (formals-fewer y xs r.0) }, tt)
  block_pairs A [] (Choice g y xs b) h w = absurd h
  block_pairs A (Function name formals body ∷ ds) (Choice g y xs b) h w = absurd h
  block_pairs A (Witness name bound free body ∷ d ∷ ds) (Choice g y xs b) h w = absurd h

  -- the lists of formals are in the heap
  function-formals : (ds : List Definition) (B : List Defined) → AreFunctions os ds B → All (λ d. IsIn os (spelling_of d).1) ds
  function-formals [] B f = All-nil (λ d. IsIn os (spelling_of d).1)
  function-formals (Function name formals body ∷ ds) (h ∷ B) f = All-cons (λ d. IsIn os (spelling_of d).1) (Function name formals body) ds f.0.formals_in (function-formals ds B f.1)
  function-formals (Function name formals body ∷ ds) [] f = absurd f
  function-formals (Witness name bound free body ∷ ds) [] f = absurd f
  function-formals (Witness name bound free body ∷ ds) (h ∷ B) f = absurd f

  pub block_formals : (ds : List Definition) (B : Block) → IsBlock os ds B → All (λ d. IsIn os (spelling_of d).1) ds
  block_formals ds (Functions B) h = function-formals ds B h
  block_formals (Witness name bound free body ∷ []) (Choice g y xs b) h = All-cons (λ d. IsIn os (spelling_of d).1) (Witness name bound free body) [] h.free_in (All-nil (λ d. IsIn os (spelling_of d).1))
  block_formals [] (Choice g y xs b) h = absurd h
  block_formals (Function name formals body ∷ ds) (Choice g y xs b) h = absurd h
  block_formals (Witness name bound free body ∷ d ∷ ds) (Choice g y xs b) h = absurd h

  pub pairs_symbols : (ps : List (ℕ × ℕ)) (B : List Defined) → ArePairs os ps B → ArePairsOfSymbols os ps
  pairs_symbols [] [] h = tt
  pairs_symbols (p ∷ ps) (k ∷ B) h = ((h.0.name_in, ap is_symbol h.0.name_is), pairs_symbols ps B h.1)
  pairs_symbols [] (k ∷ B) h = absurd h
  pairs_symbols (p ∷ ps) [] h = absurd h

  pub pairs_added : (ps : List (ℕ × ℕ)) (B : List Defined) (A : ArityTable) → ArePairs os ps B → with_pairs os ps A ≡ add_functions B A
  pairs_added [] [] A h = refl
  pairs_added (p ∷ ps) (k ∷ B) A h =
      pairs_added ps B ((name_of (object_at os p.0), p.1) ∷ A) h.1
      ∙ ap₂ (λ f n. add_functions B ((f, n) ∷ A)) (ap name_of h.0.name_is) h.0.count
  pairs_added [] (k ∷ B) A h = absurd h
  pairs_added (p ∷ ps) [] A h = absurd h

none-of : {X : Type 0} (o : Option X) → is_none o ≡ true → o ≡ None
none-of None h = refl
none-of (Some x) h = cc

-- a new name stays new where a function of another name is added
still-new : (A : ArityTable) (f : Name) (n : ℕ) (B : List Defined) → is_none (function_named B f) ≡ true → are_new A B ≡ true → are_new ((f, n) ∷ A) B ≡ true
still-new A f n [] absent w = refl
still-new A f n (k ∷ B) absent w = go (same_name k.name f) refl absent (still-new A f n B)
  where
    go : (b : Bool) → same_name k.name f ≡ b → is_none (cond b (Some k) (function_named B f)) ≡ true → (is_none (function_named B f) ≡ true → are_new A B ≡ true → are_new ((f, n) ∷ A) B ≡ true) → are_new ((f, n) ∷ A) (k ∷ B) ≡ true
    go true e a others = cc
    go false e a others =
        let p = and_parts (is_new A k.name) (is_none (function_named B k.name) && are_new A B) w in
        let q = and_parts (is_function_name k.name) (is_none (arity_of A k.name)) p.0 in
        let r = and_parts (is_none (function_named B k.name)) (are_new A B) p.1 in
        and_from (is_new ((f, n) ∷ A) k.name) (is_none (function_named B k.name) && are_new ((f, n) ∷ A) B)
        (and_from (is_function_name k.name) (is_none (arity_of ((f, n) ∷ A) k.name)) q.0 (ap (λ b. is_none (cond b (Some n) (arity_of A k.name))) (other (same_name f k.name) refl) ∙ q.1))
        (and_from (is_none (function_named B k.name)) (are_new ((f, n) ∷ A) B) r.0 (others a r.1))
      where
        other : (b : Bool) → same_name f k.name ≡ b → b ≡ false
        other true t = let z : same_name k.name f ≡ true = ap (λ g. same_name g f) (sym (same_name-eq f k.name t)) ∙ same_name-refl f in cc
        other false t = refl

module _ (os : List Object) where
  pub pairs_new : (ps : List (ℕ × ℕ)) (B : List Defined) (A : ArityTable) → ArePairs os ps B → are_new A B ≡ true → AreNew os A ps
  pairs_new [] [] A h w = tt
  pairs_new (p ∷ ps) (k ∷ B) A h w =
      let a = and_parts (is_new A k.name) (is_none (function_named B k.name) && are_new A B) w in
      let b = and_parts (is_function_name k.name) (is_none (arity_of A k.name)) a.0 in
      let r = and_parts (is_none (function_named B k.name)) (are_new A B) a.1 in
      let name : name_of (object_at os p.0) ≡ k.name = ap name_of h.0.name_is in (
        ap (arity_of A) name ∙ none-of (arity_of A k.name) b.1,
        pairs_new ps B ((name_of (object_at os p.0), p.1) ∷ A) h.1 (ap (λ f. are_new ((f, p.1) ∷ A) B) name ∙ still-new A k.name p.1 B r.0 r.1),
      )
  pairs_new [] (k ∷ B) A h w = absurd h
  pairs_new (p ∷ ps) [] A h w = absurd h

pub pairs_grow : (old new : List Object) → Grows old new → (ps : List (ℕ × ℕ)) (B : List Defined) → ArePairs old ps B → ArePairs new ps B
pairs_grow old new g [] [] h = tt
pairs_grow old new g (p ∷ ps) (k ∷ B) h = (record { name_in = IsIn-Grows old new g p.0 h.0.name_in; name_is = object_at-Grows old new g p.0 h.0.name_in ∙ h.0.name_is; count = h.0.count }, pairs_grow old new g ps B h.1)
pairs_grow old new g [] (k ∷ B) h = absurd h
pairs_grow old new g (p ∷ ps) [] h = absurd h
