-- How the program ends, and what is then true.
use Rattle.std.specs.Prelude.{◌≡◌, ℕ, Bool, true, false, List, [], ◌++◌, Option, Some, None}
use Rattle.mw_model.specs.Terms.Object.{Object}
use Rattle.mw_model.specs.Reports.Request.{Request, Trial, Help, Usage, Check, Taut, Lower, Slice, Flat, Recheck, Explain}
use Rattle.mw_request.specs.Commands.{help_text}
use Rattle.mw_model.specs.Texts.Lexemes.{Goes}
use Rattle.mw_model.specs.Texts.Grammar.{reading, trees}
use Rattle.mw_model.specs.Reports.Report.{Status, Done, SomeRefused, Syntax, last_line, lines}
use Rattle.mw_model.specs.Reports.Trial.{trial_book}
use Rattle.mw_commands.specs.Headlines.{Promised, IsBegun}
use Rattle.mw_port.specs.Ports.{Gives, Takes}
use Rattle.mw_read.specs.Kinds.{kind_of}
use Rattle.mw_answers.specs.declared.status.Status.{Status as Ending}
use Rattle.mw_answers.specs.declared.status.Status.TheVariants as ending
use Rattle.mw_model.specs.Values.Primitive.{One}
use Rattle.mw_model.specs.Events.Theory.{initial}
use Rattle.mw_model.specs.Texts.Pieces.{InOrder, numbered}
use Rattle.mw_commands.specs.Commands.TautologyBook.{OwesTautology}
use Rattle.mw_commands.specs.Commands.Lowering.{OwesLowered, derived_course}
use Rattle.mw_commands.specs.Commands.Flattening.{OwesFlat, flat_events, plain_course}
use Rattle.mw_commands.specs.Commands.LogReport.{log_lines, log_of}
use Rattle.mw_commands.specs.Commands.ExplanationBook.{OwesExplained}

-- the bytes that a source has, where it tells them
abbrev pub Has : Option (List ℕ) → List ℕ → Type 0
Has (Some left) bytes = left ≡ bytes
Has None bytes = Unit {0}

-- the sink took a prefix of the text
abbrev pub TakesSome : Option (List ℕ) → Option (List ℕ) → List ℕ → Type 0
TakesSome old new text = (written : List ℕ) × (rest : List ℕ) × (text ≡ written ++ rest) × Takes old new written

-- the text of the answers to these data, in order
abbrev pub AreAnswers : Request → List Object → List ℕ → Type 0
AreAnswers (Check N) given text = text ≡ lines 1 (initial One) given N
AreAnswers Taut given text = InOrder OwesTautology (numbered 1 given) text
AreAnswers (Lower N) given text = InOrder OwesLowered (derived_course given N) text
AreAnswers (Slice name N) given text = text ≡ []
AreAnswers (Flat N) given text = InOrder OwesFlat (flat_events (plain_course given N)) text
AreAnswers Recheck given text = text ≡ log_lines (log_of given).entered
AreAnswers (Explain N) given text = InOrder (OwesExplained N) (plain_course given N) text
AreAnswers _ given text = ⊥

-- the status of a report
abbrev pub report_status : Ending → Option Status
report_status ending.Done = Some Done
report_status ending.SomeRefused = Some SomeRefused
report_status (ending.Syntax k o) = Some (Syntax (kind_of k) o)
report_status _ = None

-- does the request read the source?
abbrev pub reads_book : Request → Bool
reads_book (Trial m N) = false
reads_book Help = false
reads_book Usage = false
reads_book _ = true

-- What was written, with this status, is what the request promises for the book that the source holds.
abbrev pub Keeps : Request → Option (List ℕ) → Option (List ℕ) → Option (List ℕ) → Status → Type 0
Keeps request book old new s = (bytes : List ℕ) × Has book bytes × (written : List ℕ) × Takes old new written × Promised request bytes written s

-- The sink took a prefix of a text that is promised for the book, of the last line on the trial book, or of the help text.
abbrev pub IsPartOf : Request → Option (List ℕ) → Option (List ℕ) → Option (List ℕ) → Type 0
IsPartOf (Trial m N) book old new = TakesSome old new (last_line (trees (trial_book m)) N)
IsPartOf Help book old new = TakesSome old new help_text
IsPartOf Usage book old new = TakesSome old new help_text
IsPartOf request book old new = (bytes : List ℕ) × Has book bytes × (written : List ℕ) × Takes old new written × IsBegun request bytes written

-- What was written is exactly the answers to some first data of the book; nothing where the request reads no book.
abbrev pub WritesFirst : Request → Option (List ℕ) → Option (List ℕ) → Option (List ℕ) → Type 0
WritesFirst (Trial m N) book old new = Takes old new []
WritesFirst Help book old new = Takes old new []
WritesFirst Usage book old new = Takes old new []
WritesFirst request book old new =
    (bytes : List ℕ) × Has book bytes × (given more : List Object) × ((trees bytes).events ≡ given ++ more) ×
    (written : List ℕ) × Takes old new written × AreAnswers request given written

-- The bytes that the source gave hold no fault, and the answers were written to all data that are complete in them.
abbrev pub WritesSoFar : Request → Option (List ℕ) → Option (List ℕ) → Option (List ℕ) → Option (List ℕ) → Type 0
WritesSoFar request old_book new_book old new =
    (given : List ℕ) × Gives old_book new_book given × ((reading Goes given).fault ≡ None) ×
    (written : List ℕ) × Takes old new written × AreAnswers request (reading Goes given).events written
