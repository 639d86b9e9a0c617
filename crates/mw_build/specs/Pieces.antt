-- What the pieces of a template mean: a machine puts objects on a stack, the newest first.
use Rattle.std.specs.Prelude.{ℕ, List, [], ◌∷◌, get_or, take, drop, reverse}
use Rattle.mw_model.specs.Terms.Object.{Name, Object, Natural, Symbol, Pair, named, name_of_bytes, NIL}
use Rattle.mw_heap.specs.Words.{word_object}
use Rattle.mw_heap.specs.PrimitiveNames.{primitive_bytes}
use Rattle.mw_build.specs.declared.piece.Variable.{Variable}
use Rattle.mw_build.specs.declared.piece.Variable.TheVariants as variable
use Rattle.mw_build.specs.declared.piece.Piece.{Piece}
use Rattle.mw_build.specs.declared.piece.Piece.TheVariants as piece

abbrev pub name_of : Variable → Name
name_of variable.X = named "X"
name_of variable.Y = named "Y"
name_of variable.Z = named "Z"
name_of variable.A = named "A"
name_of variable.B = named "B"
name_of variable.C = named "C"
name_of variable.X1 = named "X1"
name_of variable.X2 = named "X2"
name_of variable.Y1 = named "Y1"
name_of variable.Y2 = named "Y2"

-- how many of the newest objects a piece takes
abbrev pub taken_by : Piece → ℕ
taken_by (piece.Word w) = 0
taken_by (piece.Variable v) = 0
taken_by (piece.Number n) = 0
taken_by (piece.Given n) = 0
taken_by piece.Pair = 2
taken_by (piece.List n) = n
taken_by (piece.Form w n) = n
taken_by (piece.Call f n) = n
taken_by (piece.Rule r n) = n

abbrev pub list_of : List Object → Object
list_of [] = NIL
list_of (x ∷ xs) = Pair x (list_of xs)

-- what rules make of objects, by their numbers
abbrev pub Made : Type 0
Made = ℕ → List Object → Object

-- what a piece makes of the given objects, and of the parts that it takes, the oldest first
abbrev pub object_of : Made → List Object → List Object → Piece → Object
object_of made given parts (piece.Word w) = word_object w
object_of made given parts (piece.Variable v) = Symbol (name_of v)
object_of made given parts (piece.Number n) = Natural n
object_of made given parts (piece.Given n) = get_or given n NIL
object_of made given parts piece.Pair = Pair (get_or parts 0 NIL) (get_or parts 1 NIL)
object_of made given parts (piece.List n) = list_of parts
object_of made given parts (piece.Form w n) = Pair (word_object w) (list_of parts)
object_of made given parts (piece.Call f n) = Pair (Symbol (name_of_bytes (primitive_bytes f))) (list_of parts)
object_of made given parts (piece.Rule r n) = made r parts

abbrev pub step : Made → List Object → List Object → Piece → List Object
step made given stack p = object_of made given (reverse (take (taken_by p) stack)) p ∷ drop (taken_by p) stack

abbrev pub run : Made → List Object → List Object → List Piece → List Object
run made given stack [] = stack
run made given stack (p ∷ ps) = run made given (step made given stack p) ps
