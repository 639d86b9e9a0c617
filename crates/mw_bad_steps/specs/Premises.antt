-- Objects that are put behind others in a heap that grows.
use Rattle.std.specs.Prelude.{◌≡◌, ℕ, List, ◌++◌, map, All}
use Rattle.mw_model.specs.Terms.Object.{Object}
use Rattle.mw_heap.specs.Objects.{object_at, IsIn}

-- in a heap that grew, references of these objects came behind those that were there
abbrev pub PutsObjects : List Object → List Object → List ℕ → List ℕ → List Object → Type 0
PutsObjects os new had has xs = All (IsIn new) has × (map (object_at new) has ≡ map (object_at os) had ++ xs)
