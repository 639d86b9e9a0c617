-- How the judging of a book ends, and what is then true.
use Rattle.std.specs.Prelude.{◌≡◌, ℕ, List, [], Option, Some, ◌⊎◌}
use Rattle.mw_model.specs.Reports.Request.{Request}
use Rattle.mw_model.specs.Texts.Grammar.{trees}
use Rattle.mw_model.specs.Reports.Report.{Status, Done, SomeRefused, Syntax, last_line}
use Rattle.mw_model.specs.Reports.Trial.{trial_book}
use Rattle.mw_model.specs.Reports.Headline.{TrialHeadline}
use Rattle.mw_port.specs.Ports.{Rises, Takes, HasEnded}
use Rattle.mw_read.specs.Kinds.{kind_of}
use Rattle.mw_answers.specs.Statuses.{TakesSome, report_status, Keeps, IsPartOf, WritesFirst, WritesSoFar}
use Rattle.mw_answers.specs.declared.status.Status.{Status as Ending}
use Rattle.mw_answers.specs.declared.status.Status.TheVariants as ending

-- What the sink took, of what this request is owed, for a book of which this was left before and afterwards. Where memory ran out these are whole
-- answers, unless the sink counted a shortage.
abbrev pub BookEnds : Ending → Request → Option (List ℕ) → Option (List ℕ) → Option (List ℕ) → Option (List ℕ) → (old_shortages new_shortages : ℕ) → Type 0
BookEnds ending.Done q old_book new_book old new m n = HasEnded new_book × Keeps q old_book old new Done
BookEnds ending.SomeRefused q old_book new_book old new m n = HasEnded new_book × Keeps q old_book old new SomeRefused
BookEnds (ending.Syntax k o) q old_book new_book old new m n = Keeps q old_book old new (Syntax (kind_of k) o)
BookEnds ending.Help q old_book new_book old new m n = ⊥
BookEnds ending.Usage q old_book new_book old new m n = ⊥
BookEnds ending.ReadFault q old_book new_book old new m n = WritesSoFar q old_book new_book old new × IsPartOf q old_book old new
BookEnds ending.WriteFault q old_book new_book old new m n = IsPartOf q old_book old new
BookEnds ending.Memory q old_book new_book old new m n = IsPartOf q old_book old new × (Rises m n ⊎ WritesFirst q old_book old new)

-- What the sink took is the last line of the report on the trial book of m events with this step limit.
abbrev pub LastReported : (m N : ℕ) → Option (List ℕ) → Option (List ℕ) → Status → Type 0
LastReported m N old new s = (written : List ℕ) × Takes old new written × TrialHeadline m N written s

-- what the sink took of that line; the trial book is made and not read, so that no read fails
abbrev pub TrialEnds : Ending → (m N : ℕ) → Option (List ℕ) → Option (List ℕ) → (old_shortages new_shortages : ℕ) → Type 0
TrialEnds ending.Done m N old new a b = LastReported m N old new Done
TrialEnds ending.SomeRefused m N old new a b = LastReported m N old new SomeRefused
TrialEnds (ending.Syntax k o) m N old new a b = LastReported m N old new (Syntax (kind_of k) o)
TrialEnds ending.Help m N old new a b = ⊥
TrialEnds ending.Usage m N old new a b = ⊥
TrialEnds ending.ReadFault m N old new a b = ⊥
TrialEnds ending.WriteFault m N old new a b = TakesSome old new (last_line (trees (trial_book m)) N)
TrialEnds ending.Memory m N old new a b = TakesSome old new (last_line (trees (trial_book m)) N) × (Rises a b ⊎ Takes old new [])

-- the source's count of faults before and afterwards
abbrev pub SourceCounts : Ending → ℕ → ℕ → Type 0
SourceCounts ending.ReadFault old new = Rises old new
SourceCounts s old new = new ≡ old

-- the sink's count of faults before and afterwards
abbrev pub SinkCounts : Ending → ℕ → ℕ → Type 0
SinkCounts ending.WriteFault old new = Rises old new
SinkCounts s old new = new ≡ old

-- where a write ran out of memory, the sink counted a shortage
abbrev pub SinkShortages : Ending → ℕ → ℕ → Type 0
SinkShortages ending.Memory old new = Rises old new
SinkShortages s old new = Unit {0}

-- a report with this status ends with this text, of which the sink took all, or a prefix
abbrev pub Concludes : Ending → Status → List ℕ → Option (List ℕ) → Option (List ℕ) → Type 0
Concludes ending.WriteFault s text old new = TakesSome old new text
Concludes e s text old new = (report_status e ≡ Some s) × Takes old new text

-- The same of a last text, one of the expected ones. Where memory ran out nothing of one was written, or the sink counted a shortage.
abbrev pub ConcludesWith : Ending → Status → (List ℕ → Type 0) → Option (List ℕ) → Option (List ℕ) → (old_shortages new_shortages : ℕ) → Type 0
ConcludesWith ending.Memory s IsLast old new m n = Takes old new [] ⊎ (Rises m n × (last : List ℕ) × IsLast last × TakesSome old new last)
ConcludesWith e s IsLast old new m n = (last : List ℕ) × IsLast last × Concludes e s last old new

-- a write stopped
abbrev pub IsHalt : Ending → Type 0
IsHalt ending.WriteFault = Unit {0}
IsHalt ending.Memory = Unit {0}
IsHalt e = ⊥

-- a read or a write stopped, or memory ran out
abbrev pub IsStop : Ending → Type 0
IsStop ending.ReadFault = Unit {0}
IsStop ending.WriteFault = Unit {0}
IsStop ending.Memory = Unit {0}
IsStop e = ⊥
