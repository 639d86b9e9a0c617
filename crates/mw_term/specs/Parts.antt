-- Objects by their parts, and formals as symbols.
use Rattle.std.specs.Prelude.{◌≡◌, ℕ, suc, Bool, true, false, ◌&&◌, ◌||◌, not, cond, eqb, List, [], ◌∷◌, Option, Some, None}
use Rattle.mw_model.specs.Terms.Object.{Name, Object, Natural, Symbol, Pair, same_name, nil_name}
use Rattle.mw_model.specs.Terms.Term.{are_formals, is_among, is_variable}
use Rattle.mw_model.specs.Terms.Reading.{names_of}
use Rattle.mw_model.specs.Values.Primitive.{is_symbol, name_of}
use Rattle.mw_heap.specs.Objects.{object_at, IsIn}

-- a proper list of one member
abbrev pub is_single : Object → Bool
is_single (Pair c (Symbol s)) = same_name s nil_name
is_single _ = false

-- how many members a list has, whatever it ends with
abbrev pub length_of : Object → ℕ
length_of (Natural n) = 0
length_of (Symbol s) = 0
length_of (Pair a r) = suc (length_of r)

-- how many actuals a call of a function of this arity needs, where it may be called: IF takes three
abbrev pub wanted : Option ℕ → Bool → Option ℕ
wanted None is_if = None
wanted (Some m) is_if = cond (not is_if || eqb m 3) (Some m) None

-- the names of a list of distinct variables
abbrev pub if_formals : Option (List Name) → Option (List Name)
if_formals None = None
if_formals (Some xs) = cond (are_formals xs) (Some xs) None

abbrev pub formals_of : Object → Option (List Name)
formals_of x = if_formals (names_of x)

-- x is a variable that is not among the names
abbrev pub is_new_variable : List Name → Object → Bool
is_new_variable xs (Symbol y) = is_variable y && not (is_among y xs)
is_new_variable xs (Natural n) = false
is_new_variable xs (Pair a b) = false

-- the names of symbols by their references
abbrev pub names_at : List Object → List ℕ → List Name
names_at os [] = []
names_at os (r ∷ rs) = name_of (object_at os r) ∷ names_at os rs

abbrev pub AreSymbols : List Object → List ℕ → Type 0
AreSymbols os [] = Unit {0}
AreSymbols os (r ∷ rs) = IsIn os r × (is_symbol (object_at os r) ≡ true) × AreSymbols os rs
