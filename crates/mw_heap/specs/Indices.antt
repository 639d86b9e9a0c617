-- Notes on cells.
use Rattle.std.specs.Prelude.{◌≡◌, ℕ, List, slice_get, Some}

-- the place of each cell that is noted has the index of its entry
abbrev pub AreIndexed : List (ℕ × ℕ) → List ℕ → Type 0
AreIndexed entries indices = (index cell note : ℕ) → slice_get entries index ≡ Some (cell, note) → slice_get indices cell ≡ Some index
