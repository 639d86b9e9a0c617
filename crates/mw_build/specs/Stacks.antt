-- The objects of references on a stack.
use Rattle.std.specs.Prelude.{ℕ, List, [], ◌∷◌, map, reverse, All}
use Rattle.mw_model.specs.Terms.Object.{Object, NIL}
use Rattle.mw_heap.specs.Objects.{object_at, IsIn}

-- the newest first
abbrev pub stack_of : List Object → List ℕ → List Object
stack_of os refs = reverse (map (object_at os) refs)

abbrev pub AreIn : List Object → List ℕ → Type 0
AreIn os refs = All (IsIn os) refs

-- the newest, NIL where the stack is empty
abbrev pub newest : List Object → Object
newest [] = NIL
newest (x ∷ stack) = x
