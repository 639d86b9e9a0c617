-- The definitions of a well-made block are what the table takes for it.
use Rattle.std.proofs.Common.{◌≡◌, ℕ, zero, suc, true, ◌&&◌, List, [], ◌∷◌, map, length, slice_get, Some, None, refl, ap, ◌∙◌, subst}
use Rattle.std.proofs.lemmas.Bool.{and_parts}
use Rattle.mw_model.specs.Terms.Object.{Name, Object}
use Rattle.mw_model.specs.Terms.Term.{ArityTable, Term, is_term, is_closed, are_formals}
use Rattle.mw_model.specs.Terms.Reading.{names_of, term_of}
use Rattle.mw_model.specs.Values.Primitive.{Profile}
use Rattle.mw_model.specs.Values.Definition.{Function as Defined, Block, Functions, Choice, definitions, arities, add_functions, are_new, are_functions, is_some_function, is_block}
use Rattle.mw_model.proofs.Formed.{formed}
use Rattle.mw_model.proofs.Read.{term_read}
use Rattle.mw_model.proofs.Readable.{names_read}
use Rattle.mw_model.proofs.ReadBack.{some_one}
use Rattle.mw_code.specs.Blocks.{Spelling, IsHead, IsBodyOf, IsBlockOf}
use Rattle.mw_preamble.specs.declared.definition.Definition.{Definition}
use Rattle.mw_preamble.specs.declared.definition.Definition.TheVariants.{Function, Witness}
use Rattle.mw_preamble.specs.Entries.{AreFunctions, IsBlock, IsFunction, IsWitness}
use Rattle.mw_preamble.specs.Defining.{spelling_of}

module _ (os : List Object) where
  function-head : (name formals body : ℕ) (h : Defined) → IsFunction os name formals body h → IsHead os (name, formals, Some body) h
  function-head name formals body h f = record { name_in = f.name_in; formals_in = f.formals_in; symbol = f.name_is; names = ap names_of f.formals_are ∙ names_read h.formals }

  function-count : (ds : List Definition) (hs : List Defined) → AreFunctions os ds hs → length (map spelling_of ds) ≡ length hs
  function-count [] [] f = refl
  function-count (Function name formals body ∷ ds) (h ∷ hs) f = ap suc (function-count ds hs f.1)
  function-count [] (h ∷ hs) f = absurd f
  function-count (Function name formals body ∷ ds) [] f = absurd f
  function-count (Witness name bound free body ∷ ds) [] f = absurd f
  function-count (Witness name bound free body ∷ ds) (h ∷ hs) f = absurd f

  function-heads : (ds : List Definition) (hs : List Defined) → AreFunctions os ds hs → (i : ℕ) (m : Spelling) (d : Defined) → slice_get (map spelling_of ds) i ≡ Some m → slice_get hs i ≡ Some d → IsHead os m d
  function-heads (Function name formals body ∷ ds) (h ∷ hs) f zero m d e k = subst (IsHead os m) (some_one k) (subst (λ n. IsHead os n h) (some_one e) (function-head name formals body h f.0))
  function-heads (Function name formals body ∷ ds) (h ∷ hs) f (suc i) m d e k = function-heads ds hs f.1 i m d e k
  function-heads [] [] f i m d e k = cc
  function-heads [] (h ∷ hs) f i m d e k = absurd f
  function-heads (Function name formals body ∷ ds) [] f i m d e k = absurd f
  function-heads (Witness name bound free body ∷ ds) [] f i m d e k = absurd f
  function-heads (Witness name bound free body ∷ ds) (h ∷ hs) f i m d e k = absurd f

  module _ (A : ArityTable) (all : List Defined) where
    function-made : (h : Defined) (hs : List Defined) → are_functions A (h ∷ hs) ≡ true → (is_term A h.body ≡ true) × (are_functions A hs ≡ true)
    function-made h hs made =
        let p = and_parts (are_formals h.formals) (is_term A h.body && (is_closed h.formals h.body && are_functions A hs)) made in
        let q = and_parts (is_term A h.body) (is_closed h.formals h.body && are_functions A hs) p.1 in
        (q.0, (and_parts (is_closed h.formals h.body) (are_functions A hs) q.1).1)

    function-bodies : (ds : List Definition) (hs : List Defined) → AreFunctions os ds hs → are_functions A hs ≡ true → (i : ℕ) (m : Spelling) (d : Defined) → slice_get (map spelling_of ds) i ≡ Some m → slice_get hs i ≡ Some d → IsBodyOf os m.2 (Functions all) d.body
    function-bodies (Function name formals body ∷ ds) (h ∷ hs) f made zero m d e k =
        let code : IsBodyOf os (Some body) (Functions all) h.body = (f.0.body_in, ap term_of f.0.body_is ∙ term_read A h.body (formed A h.body (function-made h hs made).0)) in
        subst (λ (d : Defined). IsBodyOf os m.2 (Functions all) d.body) (some_one k) (subst (λ (n : Spelling). IsBodyOf os n.2 (Functions all) h.body) (some_one e) code)
    function-bodies (Function name formals body ∷ ds) (h ∷ hs) f made (suc i) m d e k = function-bodies ds hs f.1 (function-made h hs made).1 i m d e k
    function-bodies [] [] f made i m d e k = cc
    function-bodies [] (h ∷ hs) f made i m d e k = absurd f
    function-bodies (Function name formals body ∷ ds) [] f made i m d e k = absurd f
    function-bodies (Witness name bound free body ∷ ds) [] f made i m d e k = absurd f
    function-bodies (Witness name bound free body ∷ ds) (h ∷ hs) f made i m d e k = absurd f

  module _ (P : Profile) (D : List Block) where
    functions-spelled : (ds : List Definition) (B : List Defined) → AreFunctions os ds B → is_block (arities P D) (Functions B) ≡ true → IsBlockOf os (definitions P D) (map spelling_of ds) (Functions B)
    functions-spelled ds B f made =
        let A = arities P D in
        let p = and_parts (is_some_function B) (are_new A B && are_functions (add_functions B A) B) made in
        let q = and_parts (are_new A B) (are_functions (add_functions B A) B) p.1 in
        record {
          made = made;
          heads = record { count = function-count ds B f; each = function-heads ds B f };
          bodies = function-bodies (add_functions B A) B ds B f q.1;
        }

    witness-spelled : (name bound free body : ℕ) (g y : Name) (xs : List Name) (b : Term) → IsWitness os name bound free body g y xs b → is_block (arities P D) (Choice g y xs b) ≡ true → IsBlockOf os (definitions P D) ((name, free, None) ∷ []) (Choice g y xs b)
    witness-spelled name bound free body g y xs b f made = record { made = made; heads = record { count = refl; each = head }; bodies = code }
      where
        named : Defined
        named = record { name = g; formals = xs; body = b }

        first : IsHead os (name, free, None) named
        first = record { name_in = f.name_in; formals_in = f.free_in; symbol = f.name_is; names = ap names_of f.free_are ∙ names_read xs }

        head : (i : ℕ) (m : Spelling) (d : Defined) → slice_get ((name, free, None) ∷ []) i ≡ Some m → slice_get (named ∷ []) i ≡ Some d → IsHead os m d
        head zero m d e k = subst (IsHead os m) (some_one k) (subst (λ n. IsHead os n named) (some_one e) first)
        head (suc i) m d e k = cc

        code : (i : ℕ) (m : Spelling) (d : Defined) → slice_get ((name, free, None) ∷ []) i ≡ Some m → slice_get (named ∷ []) i ≡ Some d → IsBodyOf os m.2 (Choice g y xs b) d.body
        code zero m d e k = subst (λ (n : Spelling). IsBodyOf os n.2 (Choice g y xs b) d.body) (some_one e) tt
        code (suc i) m d e k = cc

    pub block-spelled : (ds : List Definition) (B : Block) → IsBlock os ds B → is_block (arities P D) B ≡ true → IsBlockOf os (definitions P D) (map spelling_of ds) B
    block-spelled ds (Functions B) f made = functions-spelled ds B f made
    block-spelled (Witness name bound free body ∷ []) (Choice g y xs b) f made = witness-spelled name bound free body g y xs b f made
    block-spelled [] (Choice g y xs b) f made = absurd f
    block-spelled (Function name formals body ∷ ds) (Choice g y xs b) f made = absurd f
    block-spelled (Witness name bound free body ∷ d ∷ ds) (Choice g y xs b) f made = absurd f
