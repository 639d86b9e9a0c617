-- The trial book from an event on.
use Rattle.std.specs.Prelude.{ℕ, zero, suc, List, [], ◌++◌}
use Rattle.mw_model.specs.Reports.Trial.{trial_line}

-- the lines of so many events after this one
abbrev pub lines_after : (event count : ℕ) → List ℕ
lines_after event zero = []
lines_after event (suc count) = trial_line (suc event) ++ lines_after (suc event) count
