-- What an insertion does to a list of distinct values.
use Rattle.std.specs.Prelude.{◌≡◌, ℕ, List, [], ◌∷◌, ◌++◌, slice_get, Some, ◌⊎◌}

-- the value stands at i, and went last if it is new
pub record Inserts {X : Type 0} (old new : List X) (x : X) (i : ℕ) : Type 0 where
  pub stands : slice_get new i ≡ Some x
  pub change : (new ≡ old) ⊎ (new ≡ old ++ x ∷ [])
