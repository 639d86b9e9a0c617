-- What is owed where a theorem of a book is asked for: the events that it rests on.
use Rattle.std.specs.Prelude.{◌≡◌, ℕ, List, [], ◌++◌, length, map, filter, Option, Some, None, codes}
use Rattle.mw_model.specs.Terms.Object.{Name, Object}
use Rattle.mw_model.specs.Texts.Lexemes.{Fault}
use Rattle.mw_model.specs.Texts.Grammar.{Book}
use Rattle.mw_model.specs.Texts.Printing.{numeral}
use Rattle.mw_model.specs.Events.Fate.{happens}
use Rattle.mw_model.specs.Reports.Report.{Status, Done, SomeRefused, Syntax, spaced}
use Rattle.mw_model.specs.Texts.Written.{IsDatumLine}
use Rattle.mw_model.specs.Texts.Pieces.{InOrder, comment, comment_ending}
use Rattle.mw_commands.specs.Commands.Transition.{course, is_acceptance}
use Rattle.mw_commands.specs.Commands.Slice.{event_at, target, IsSlice}

abbrev pub accepted_events : List Object → ℕ → List Object
accepted_events es N = map (λ s. s.event) (filter is_acceptance (course (λ t e. happens t N e) es))

-- the first events of the book, of this number
abbrev pub of_events : ℕ → List Object → List ℕ
of_events k es = spaced (numeral k) (spaced (codes "of") (numeral (length es)))

-- the events kept are those at the places of the slice
abbrev pub AreKept : List Object → ℕ → List Object → Type 0
AreKept accepted goal kept = (places : List ℕ) × IsSlice accepted goal places × (kept ≡ map (event_at accepted) places)

-- From a book that has a fault nothing is kept. The goal is the place of the target among the accepted events.
abbrev pub SliceOwed : Option Fault → Option ℕ → List Object → List Object → List ℕ → Type 0
SliceOwed (Some f) goal es accepted text = text ≡ comment_ending (Some f) []
SliceOwed None None es accepted text = text ≡ comment (spaced (codes "none of") (numeral (length es)))
SliceOwed None (Some goal) es accepted text =
    (kept : List Object) × (body : List ℕ) × AreKept accepted goal kept × InOrder IsDatumLine kept body × (text ≡ body ++ comment (spaced (codes "kept") (of_events (length kept) es)))

abbrev pub SliceWritten : Book → ℕ → Name → List ℕ → Type 0
SliceWritten b N name text = let accepted = accepted_events b.events N in SliceOwed b.fault (target accepted name) b.events accepted text

abbrev pub status_for : Option Fault → Option ℕ → Status
status_for (Some f) goal = Syntax f.kind f.offset
status_for None (Some goal) = Done
status_for None None = SomeRefused

abbrev pub slicing_status : Book → ℕ → Name → Status
slicing_status b N name = status_for b.fault (target (accepted_events b.events N) name)
