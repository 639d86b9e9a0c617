-- Definitions: blocks of functions, and witnesses.
use Rattle.std.specs.Prelude.{◌≡◌, Bool, true, false, ◌&&◌, List, [], ◌∷◌, length, Option, is_none, find, map}
use Rattle.mw_model.specs.Terms.Object.{Name, NIL, same_name}
use Rattle.mw_model.specs.Terms.Term.{Term, Terms, Variable, Constant, Call, Lambda, NoTerms, More, Formula, Equal, Not, Or, ArityTable, arity_of, is_function_name, are_formals, is_term, is_closed}
use Rattle.mw_model.specs.Values.Primitive.{Profile, primitive_arities}

pub record Function : Type 0 where
  pub name : Name
  pub formals : List Name
  pub body : Term

-- Functions that may call each other, the first one oldest; or a witness,
-- whose value is an object to put for `bound` that makes the body other than NIL.
pub data Block : Type 0 where
  Functions : List Function → Block
  Choice : (name : Name) → (bound : Name) → (free : List Name) → (body : Term) → Block

-- the blocks, newest first
pub record Definitions : Type 0 where
  pub profile : Profile
  pub blocks : List Block

abbrev pub definitions : Profile → List Block → Definitions
definitions P D = record { profile = P; blocks = D }

abbrev pub function_named : List Function → Name → Option Function
function_named B f = find (λ h. same_name h.name f) B

-- The arity table: the functions and witnesses, newest first, and then the primitives.
abbrev pub add_functions : List Function → ArityTable → ArityTable
add_functions [] A = A
add_functions (h ∷ B) A = add_functions B ((h.name, length h.formals) ∷ A)

abbrev pub add_block : Block → ArityTable → ArityTable
add_block (Functions B) A = add_functions B A
add_block (Choice g y xs b) A = (g, length xs) ∷ A

abbrev pub arities : Profile → List Block → ArityTable
arities P [] = primitive_arities P
arities P (B ∷ D) = add_block B (arities P D)

abbrev pub arity_table : Definitions → ArityTable
arity_table D = arities D.profile D.blocks

-- Well made: new function names, distinct formals, and bodies that are terms with no other variables.
abbrev pub is_new : ArityTable → Name → Bool
is_new A f = is_function_name f && is_none (arity_of A f)

abbrev pub are_new : ArityTable → List Function → Bool
are_new A [] = true
are_new A (h ∷ B) = is_new A h.name && (is_none (function_named B h.name) && are_new A B)

abbrev pub are_functions : ArityTable → List Function → Bool
are_functions A [] = true
are_functions A (h ∷ B) = are_formals h.formals && (is_term A h.body && (is_closed h.formals h.body && are_functions A B))

abbrev pub is_some_function : List Function → Bool
is_some_function [] = false
is_some_function (h ∷ B) = true

abbrev pub is_block : ArityTable → Block → Bool
is_block A (Functions B) = is_some_function B && (are_new A B && are_functions (add_functions B A) B)
is_block A (Choice g y xs b) = is_new A g && (are_formals (y ∷ xs) && (is_term A b && is_closed (y ∷ xs) b))

abbrev pub are_blocks : Profile → List Block → Bool
are_blocks P [] = true
are_blocks P (B ∷ D) = is_block (arities P D) B && are_blocks P D

abbrev pub IsWellMade : Definitions → Type 0
IsWellMade D = are_blocks D.profile D.blocks ≡ true

-- The axioms of a block, the first function's first: (f x1 .. xn) = body, and for a witness
-- body = 'nil or not ((lambda (bound x1 .. xn) body) (f x1 .. xn) x1 .. xn) = 'nil.
abbrev pub variable_terms : List Name → Terms
variable_terms [] = NoTerms
variable_terms (x ∷ xs) = More (Variable x) (variable_terms xs)

abbrev pub function_axiom : Function → Formula
function_axiom h = Equal (Call h.name (variable_terms h.formals)) h.body

abbrev pub choice_axiom : Name → Name → List Name → Term → Formula
choice_axiom g y xs b =
    Or (Equal b (Constant NIL)) (Not (Equal (Lambda (y ∷ xs) b (More (Call g (variable_terms xs)) (variable_terms xs))) (Constant NIL)))

abbrev pub block_axioms : Block → List Formula
block_axioms (Functions B) = map function_axiom B
block_axioms (Choice g y xs b) = choice_axiom g y xs b ∷ []
