-- What is owed where a book is explained: of each event that is refused its line, as a comment, and then a datum that says why.
use Rattle.std.specs.Prelude.{◌≡◌, ℕ, ◌≤◌, length, List, [], ◌∷◌, ◌++◌, None, codes}
use Rattle.mw_model.specs.Terms.Object.{Object}
use Rattle.mw_model.specs.Events.Refusal.{Fate, Accepted, Refused}
use Rattle.mw_model.specs.Values.Primitive.{One}
use Rattle.mw_model.specs.Texts.Grammar.{Book, book, limit, trees}
use Rattle.mw_model.specs.Events.Theory.{initial}
use Rattle.mw_model.specs.Texts.Written.{IsDatumLine}
use Rattle.mw_model.specs.Texts.Pieces.{InOrder, comment_ending}
use Rattle.mw_model.specs.Reports.Report.{Status, status_of, line, report}
use Rattle.mw_model.specs.Reports.Keeping.{EachKeeps}
use Rattle.mw_commands.specs.Commands.Transition.{Transition}
use Rattle.mw_commands.specs.Commands.Lowering.{refused_in, course_summary}
use Rattle.mw_commands.specs.Commands.Flattening.{plain_course}
use Rattle.mw_commands.specs.Commands.Explanation.{why}

abbrev pub OwesWhy : ℕ → Transition → Fate → List ℕ → Type 0
OwesWhy N s (Accepted value) piece = piece ≡ []
OwesWhy N s (Refused r) piece = (datum : List ℕ) × IsDatumLine (why s.number r s.before N s.event) datum × (piece ≡ codes "; " ++ (line s.number s.event (Refused r) ++ datum))

abbrev pub OwesExplained : ℕ → Transition → List ℕ → Type 0
OwesExplained N s piece = OwesWhy N s s.fate piece

abbrev pub ExplanationWritten : Book → ℕ → List ℕ → Type 0
ExplanationWritten b N text =
    let ss = plain_course b.events N in (body : List ℕ) × InOrder (OwesExplained N) ss body × (text ≡ body ++ comment_ending b.fault (course_summary ss))

abbrev pub explanation_status : Book → ℕ → Status
explanation_status b N = status_of b.fault (refused_in (plain_course b.events N))

-- the data that are written
abbrev pub reasons : ℕ → List Transition → List Object
reasons N [] = []
reasons N (s ∷ ss) = elim s.fate [ Accepted value ↦ reasons N ss | Refused r ↦ why s.number r s.before N s.event ∷ reasons N ss ]

-- What is written is a text whose data are the reasons of the events that are refused; and what `check` promises of the events holds.
pub record ExplanationHeadline (bytes : List ℕ) (N : ℕ) (written : List ℕ) (status : Status) : Type 0 where
  pub exact : ExplanationWritten (trees bytes) N written
  pub ends : status ≡ explanation_status (trees bytes) N
  pub as_check : explanation_status (trees bytes) N ≡ (report bytes N).status
  pub again : length written ≤ limit → trees written ≡ book (reasons N (plain_course (trees bytes).events N)) None
  pub events_keep : EachKeeps (initial One) N (trees bytes).events
