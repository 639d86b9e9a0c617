-- A run that meets no fault and has enough memory writes the expected output.
use Rattle.std.specs.Prelude.{◌≡◌, ◌⊎◌, ℕ, List, ◌++◌, Option, Some}
use Rattle.mw_model.specs.Reports.Request.{Request, Help, Usage}
use Rattle.mw_model.specs.Reports.Report.{Done, SomeRefused, Syntax}
use Rattle.mw_commands.specs.Headlines.{Promised}
use Rattle.mw_request.specs.Commands.{asked, help_text}
use Rattle.mw_port.specs.Ports.{Rises}
use Rattle.mw_read.specs.Kinds.{kind_of}
use Rattle.mw_book.specs.Runs.{Fulfils}
use Rattle.mw_answers.specs.declared.status.Status.{Status as Ending}
use Rattle.mw_answers.specs.declared.status.Status.TheVariants as ending

-- the expected text with this ending: what the request promises for the book, with that status, or the help text
abbrev pub IsExpected : Ending → Request → (book text : List ℕ) → Type 0
IsExpected ending.Done q book text = Promised q book text Done
IsExpected ending.SomeRefused q book text = Promised q book text SomeRefused
IsExpected (ending.Syntax k o) q book text = Promised q book text (Syntax (kind_of k) o)
IsExpected ending.Help q book text = (q ≡ Help) × (text ≡ help_text)
IsExpected ending.Usage q book text = (q ≡ Usage) × (text ≡ help_text)
IsExpected ending.ReadFault q book text = ⊥
IsExpected ending.WriteFault q book text = ⊥
IsExpected ending.Memory q book text = ⊥

-- For all arguments: where the source and the sink expose their bytes, and neither count of faults rises, a run for which the clauses hold ends
-- with a status and the expected text, which the sink took, or out of memory.
abbrev pub RunsAreComplete : Type 0
RunsAreComplete =
    (words : List (List ℕ)) (e : Ending) (book before after : List ℕ) (left : Option (List ℕ)) (a b m n k l : ℕ) →
    Fulfils (asked words) e (Some book) left (Some before) (Some after) a b m n k l → (Rises a b → ⊥) → (Rises m n → ⊥) →
    (e ≡ ending.Memory) ⊎ ((text : List ℕ) × (after ≡ before ++ text) × IsExpected e (asked words) book text)
