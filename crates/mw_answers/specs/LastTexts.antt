-- What follows the answers to all data of a book, by what was asked for, and how many of the data are refused.
use Rattle.std.specs.Prelude.{◌≡◌, ℕ, ◌&&◌, not, ◌+◌, cond, List, length, Option, is_some}
use Rattle.mw_model.specs.Terms.Object.{Object}
use Rattle.mw_model.specs.Values.Primitive.{One}
use Rattle.mw_model.specs.Texts.Lexemes.{Fault}
use Rattle.mw_model.specs.Texts.Grammar.{book}
use Rattle.mw_model.specs.Events.Theory.{initial}
use Rattle.mw_model.specs.Reports.Report.{last_line, refused_among}
use Rattle.mw_model.specs.Reports.Request.{Request, Check, Taut, Lower, Slice, Flat, Recheck, Explain}
use Rattle.mw_model.specs.Texts.Pieces.{how_many, comment_ending, ending}
use Rattle.mw_commands.specs.Commands.TautologyBook.{is_proved, tautology_summary}
use Rattle.mw_commands.specs.Commands.Lowering.{course_summary, derived_course, refused_in}
use Rattle.mw_commands.specs.Commands.Slice.{target}
use Rattle.mw_commands.specs.Commands.Slicing.{accepted_events, SliceOwed}
use Rattle.mw_commands.specs.Commands.Transition.{is_acceptance}
use Rattle.mw_commands.specs.Commands.Flattening.{flat_summary, is_switch, plain_course}
use Rattle.mw_commands.specs.Commands.LogReport.{denied, log_of, log_summary}

-- the text after the answers to all data of a book with this fault, or with none: the last line, and for a slice the events that are kept before it
abbrev pub IsLastText : Request → List Object → Option Fault → List ℕ → Type 0
IsLastText (Check N) given fault text = text ≡ last_line (book given fault) N
IsLastText Taut given fault text = text ≡ comment_ending fault (tautology_summary given)
IsLastText (Lower N) given fault text = text ≡ comment_ending fault (course_summary (derived_course given N))
IsLastText (Slice name N) given fault text = let accepted = accepted_events given N in SliceOwed fault (target accepted name) given accepted text
IsLastText (Flat N) given fault text = text ≡ comment_ending fault (flat_summary (plain_course given N))
IsLastText Recheck given fault text = text ≡ ending fault (log_summary (log_of given))
IsLastText (Explain N) given fault text = text ≡ comment_ending fault (course_summary (plain_course given N))
IsLastText _ given fault text = ⊥

-- how many of the data are refused, or not proved; of a slice whether its theorem is missing; a log has no place for switches either; of a log, how
-- many events get a no, and how many steps are left over
abbrev pub refused_for : Request → List Object → ℕ
refused_for (Check N) given = refused_among (initial One) given N
refused_for Taut given = how_many (λ x. not (is_proved x)) given
refused_for (Lower N) given = refused_in (derived_course given N)
refused_for (Slice name N) given = cond (is_some (target (accepted_events given N) name)) 0 1
refused_for (Flat N) given = how_many (λ s. not (is_acceptance s && not (is_switch s))) (plain_course given N)
refused_for Recheck given = let log = log_of given in denied log + length log.left
refused_for (Explain N) given = refused_in (plain_course given N)
refused_for _ given = 0
