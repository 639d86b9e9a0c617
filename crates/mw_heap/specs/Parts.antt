-- Parts of objects by their place. A part is a reference, or nothing where there is none, which counts as NIL.
use Rattle.std.specs.Prelude.{ℕ, List, Option, Some, None}
use Rattle.mw_model.specs.Terms.Object.{Object, NIL}
use Rattle.mw_heap.specs.Objects.{object_at, IsIn}

-- the object of a part
abbrev pub part_at : List Object → Option ℕ → Object
part_at os None = NIL
part_at os (Some r) = object_at os r

-- a part of the heap
abbrev pub IsPart : List Object → Option ℕ → Type 0
IsPart os None = Unit {0}
IsPart os (Some r) = IsIn os r
