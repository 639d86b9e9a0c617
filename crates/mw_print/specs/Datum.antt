-- What writing a datum does.
use Rattle.std.specs.Prelude.{◌≡◌, ℕ, List, ◌++◌}
use Rattle.mw_model.specs.Terms.Object.{Object}
use Rattle.mw_model.specs.Texts.Written.{IsWritten}

-- what is owed for x is added to the old bytes; next is the first label that is unused then
abbrev pub WritesDatum : Object → ℕ → List ℕ → List ℕ → ℕ → Type 0
WritesDatum x first old new next = (text : List ℕ) × (new ≡ old ++ text) × IsWritten x first text next
