-- What a call on a source or a sink does to the bytes, where they are told, and to the count of faults.
use Rattle.std.specs.Prelude.{◌≡◌, ℕ, ◌-◌, ◌^◌, ◌<◌, ◌≤◌, ◌⊎◌, List, [], ◌++◌, Option, Some, None}

-- the last value of a count, where it stands still
abbrev pub last_count : ℕ
last_count = 2 ^ 64 - 1

-- the count of faults rose, or stands at its last value
abbrev pub Rises : ℕ → ℕ → Type 0
Rises old new = (old < new) ⊎ ((old ≤ new) × (new ≡ last_count))

-- the piece came from the front of the bytes that are left
abbrev pub Gives : Option (List ℕ) → Option (List ℕ) → List ℕ → Type 0
Gives (Some old) (Some new) piece = old ≡ piece ++ new
Gives None None piece = Unit {0}
Gives _ _ piece = ⊥

-- no bytes are left, where they are told
abbrev pub HasEnded : Option (List ℕ) → Type 0
HasEnded (Some left) = left ≡ []
HasEnded None = Unit {0}

-- the piece went after the bytes that were taken
abbrev pub Takes : Option (List ℕ) → Option (List ℕ) → List ℕ → Type 0
Takes (Some old) (Some new) piece = new ≡ old ++ piece
Takes None None piece = Unit {0}
Takes _ _ piece = ⊥
