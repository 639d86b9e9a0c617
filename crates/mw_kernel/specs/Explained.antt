-- What is put behind a text where an event is explained.
use Rattle.std.specs.Prelude.{◌≡◌, ℕ, List, ◌++◌}
use Rattle.mw_model.specs.Terms.Object.{Object}
use Rattle.mw_model.specs.Events.Refusal.{Fate, Accepted, Refused}
use Rattle.mw_model.specs.Events.Theory.{Theory}
use Rattle.mw_model.specs.Texts.Written.{IsDatumLine}
use Rattle.mw_commands.specs.Commands.Explanation.{why}

-- the line of this datum
abbrev pub PutsLine : Object → List ℕ → List ℕ → Type 0
PutsLine x old new = (line : List ℕ) × IsDatumLine x line × (new ≡ old ++ line)

-- nothing for an event that is accepted, and the line that says why for one that is refused
abbrev pub PutsWhy : ℕ → Fate → Theory → ℕ → Object → List ℕ → List ℕ → Type 0
PutsWhy k (Accepted value) t N e old new = new ≡ old
PutsWhy k (Refused r) t N e old new = PutsLine (why k r t N e) old new
