-- What writing the members of a step does.
use Rattle.std.specs.Prelude.{◌≡◌, ℕ, List, ◌∷◌, ◌++◌}
use Rattle.mw_model.specs.Terms.Object.{Object}
use Rattle.mw_model.specs.Texts.Written.{IsWritten, AreWritten}

-- x is added to the old bytes, after a space; next is the first label that is unused then
abbrev pub WritesMember : Object → ℕ → List ℕ → List ℕ → ℕ → Type 0
WritesMember x first old new next = (text : List ℕ) × (new ≡ old ++ 32 ∷ text) × IsWritten x first text next

-- these are added, a space before each
abbrev pub WritesMembers : List Object → ℕ → List ℕ → List ℕ → Type 0
WritesMembers xs first old new = (text : List ℕ) × (new ≡ old ++ text) × AreWritten xs first text
