-- The rows that are read: of each built-in definition its name, how many arguments it takes, and its axiom.
use Rattle.std.specs.Prelude.{◌≡◌, ℕ, ◌^◌, Bool, true, false, ◌&&◌, ltb, List, [], ◌∷◌, length, is_none}
use Rattle.mw_model.specs.Terms.Object.{Name, Object, Natural, Symbol, Pair, NIL, cdr}
use Rattle.mw_model.specs.Terms.Term.{Formula, formula_object, ArityTable, arity_of}
use Rattle.mw_model.specs.Values.Primitive.{Profile}
use Rattle.mw_model.specs.Values.Definition.{Function, Block, Functions, Choice, function_axiom, choice_axiom}
use Rattle.mw_model.specs.BuiltIns.BuiltIn.{built_in}

-- (NAME n . axiom)
abbrev pub row : Name → ℕ → Formula → Object
row f n a = Pair (Symbol f) (Pair (Natural n) (formula_object a))

-- the rows of functions, before others
abbrev pub function_rows : List Function → Object → Object
function_rows [] rest = rest
function_rows (h ∷ B) rest = Pair (row h.name (length h.formals) (function_axiom h)) (function_rows B rest)

abbrev pub block_rows : Block → Object → Object
block_rows (Functions B) rest = function_rows B rest
block_rows (Choice g y xs b) rest = Pair (row g (length xs) (choice_axiom g y xs b)) rest

-- those of the oldest block first
abbrev pub rows_before : List Block → Object → Object
rows_before [] rest = rest
rows_before (B ∷ D) rest = rows_before D (block_rows B rest)

-- They are long: a proof opens them by name alone.
unfoldable pub built_in_rows : Profile → Object
built_in_rows P = rows_before (built_in P) NIL

-- A row that may be added to the table: its function is new.
abbrev pub is_row : ArityTable → Object → Bool
is_row A (Pair (Symbol f) (Pair (Natural n) a)) = ltb n (2 ^ 64) && is_none (arity_of A f)
is_row A x = false

abbrev pub with_row : ArityTable → Object → ArityTable
with_row A (Pair (Symbol f) (Pair (Natural n) a)) = (f, n) ∷ A
with_row A x = A

abbrev pub axiom_of : Object → Object
axiom_of x = cdr (cdr x)

-- rows that may be added one after the other, up to the first rest that is not a pair
abbrev pub are_rows : ArityTable → Object → Bool
are_rows A (Pair x rest) = is_row A x && are_rows (with_row A x) rest
are_rows A x = true

abbrev pub with_rows : ArityTable → Object → ArityTable
with_rows A (Pair x rest) = with_rows (with_row A x) rest
with_rows A x = A

abbrev pub axioms_of : Object → List Object
axioms_of (Pair x rest) = axiom_of x ∷ axioms_of rest
axioms_of x = []

-- The parts of a pair, or the object itself if it is not a pair.
abbrev pub first_part : Object → Object
first_part (Pair a b) = a
first_part x = x

abbrev pub second_part : Object → Object
second_part (Pair a b) = b
second_part x = x

-- the row of a block of one
abbrev pub IsRowOf : Block → Object → Type 0
IsRowOf (Functions (h ∷ [])) x = x ≡ row h.name (length h.formals) (function_axiom h)
IsRowOf (Choice g y xs b) x = x ≡ row g (length xs) (choice_axiom g y xs b)
IsRowOf _ x = ⊥

abbrev pub is_single : Block → Bool
is_single (Functions (h ∷ [])) = true
is_single (Choice g y xs b) = true
is_single _ = false

abbrev pub are_single : List Block → Bool
are_single [] = true
are_single (B ∷ Bs) = is_single B && are_single Bs

-- the rows of blocks that stand oldest first
abbrev pub rows_of : List Block → Object
rows_of [] = NIL
rows_of (B ∷ Bs) = block_rows B (rows_of Bs)

-- the blocks one after the other before those that are there
abbrev pub turned : List Block → List Block → List Block
turned [] D = D
turned (B ∷ Bs) D = turned Bs (B ∷ D)
