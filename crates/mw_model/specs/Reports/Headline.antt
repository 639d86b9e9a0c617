-- The promises of `check` and of `trial`, for the bytes of a book and a step limit.
use Rattle.std.specs.Prelude.{◌≡◌, ℕ, List}
use Rattle.mw_model.specs.Values.Primitive.{One}
use Rattle.mw_model.specs.Texts.Grammar.{trees}
use Rattle.mw_model.specs.Events.Theory.{initial}
use Rattle.mw_model.specs.Reports.Keeping.{EachKeeps}
use Rattle.mw_model.specs.Reports.Report.{Status, report, last_line}
use Rattle.mw_model.specs.Reports.Trial.{trial_book}

-- What was written on the book, with this status, is the report; and what the report calls accepted is true.
pub record Headline (bytes : List ℕ) (N : ℕ) (written : List ℕ) (status : Status) : Type 0 where
  pub exact : written ≡ (report bytes N).text
  pub ends : status ≡ (report bytes N).status
  pub events_keep : EachKeeps (initial One) N (trees bytes).events

-- The same of the trial book of m events, of whose report only the last line is written.
pub record TrialHeadline (m N : ℕ) (written : List ℕ) (status : Status) : Type 0 where
  pub exact : written ≡ last_line (trees (trial_book m)) N
  pub ends : status ≡ (report (trial_book m) N).status
  pub events_keep : EachKeeps (initial One) N (trees (trial_book m)).events
