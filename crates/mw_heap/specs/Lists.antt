-- Lists of objects of a heap.
use Rattle.std.specs.Prelude.{ℕ, List, [], ◌∷◌}
use Rattle.mw_model.specs.Terms.Object.{Object, Pair, NIL}
use Rattle.mw_heap.specs.Objects.{object_at}

-- the list of the objects of these references
abbrev pub list_object : List Object → List ℕ → Object
list_object os [] = NIL
list_object os (x ∷ xs) = Pair (object_at os x) (list_object os xs)

-- the members up to the end of a list, whatever ends it
abbrev pub proper_list : Object → Object
proper_list (Pair x rest) = Pair x (proper_list rest)
proper_list _ = NIL
