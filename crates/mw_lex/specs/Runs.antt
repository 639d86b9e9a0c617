-- Runs of bytes of a kind.
use Rattle.std.specs.Prelude.{◌≡◌, ℕ, ◌<◌, ◌≤◌, Bool, true, false, List, [], ◌∷◌, length, take, slice_index}
use Rattle.std.specs.List.{list_all}

-- the first n bytes are of the kind, and the byte after them is not
pub record IsRun (p : ℕ → Bool) (bytes : List ℕ) (n : ℕ) : Type 0 where
  pub within : n ≤ length bytes
  pub all : list_all p (take n bytes) ≡ true
  pub ends : n < length bytes → p (slice_index bytes n) ≡ false

-- the first byte is of the kind
abbrev pub StartsWith : (ℕ → Bool) → List ℕ → Type 0
StartsWith p [] = ⊥
StartsWith p (b ∷ bytes) = p b ≡ true
