-- What is owed for a book that is turned to a log is read as a log whose events each get a yes.
use Rattle.std.proofs.Common.{◌≡◌, ℕ, ◌≤◌, ◌<◌, true, List, [], length, map, None, codes, refl, sym, ap, ◌∙◌, subst, arith, length-append}
use Rattle.mw_model.specs.Values.Primitive.{One}
use Rattle.mw_model.specs.Events.Evaluation.{range}
use Rattle.mw_model.specs.Events.Theory.{initial}
use Rattle.mw_model.specs.Texts.Grammar.{Book, book, limit, trees}
use Rattle.mw_model.specs.Texts.Printing.{numeral}
use Rattle.mw_model.specs.Reports.Report.{spaced}
use Rattle.mw_model.specs.Texts.Pieces.{comment_ending}
use Rattle.mw_model.proofs.TextReadBack.{within_limit}
use Rattle.mw_commands.specs.Commands.Transition.{Transition, last_theory_from}
use Rattle.mw_commands.specs.Commands.LogReport.{log_from}
use Rattle.mw_commands.specs.Commands.Flattening.{flat_event, before_switch, plain_course, flat_events, flat_summary, FlatWritten}
use Rattle.mw_commands.specs.Headlines.{LogAccepted}
use Rattle.mw_commands.proofs.LexingLines.{no_newline}
use Rattle.mw_commands.proofs.OneLine.{spaced_line, numeral_line}
use Rattle.mw_commands.proofs.Comments.{ending_reads}
use Rattle.mw_commands.proofs.WrittenRead.{text_read, whole_read}
use Rattle.mw_commands.proofs.StepLines.{Reads}
use Rattle.mw_commands.proofs.FlatRead.{flat_data, flat_read, no_more_steps}
use Rattle.mw_commands.proofs.FlatCourse.{Runs, course_runs}

summary_line : (ss : List Transition) → no_newline (flat_summary ss) ≡ true
summary_line ss =
    let flat = spaced (codes "flat") (numeral (length (flat_events ss))) in
    spaced_line (codes "events") (spaced (numeral (length ss)) flat) refl
    (spaced_line (numeral (length ss)) flat (numeral_line (length ss)) (spaced_line (codes "flat") (numeral (length (flat_events ss))) refl (numeral_line (length (flat_events ss)))))

module _ (b : Book) (N : ℕ) (text : List ℕ) (w : FlatWritten b N text) (l : length text ≤ limit) where
  abbrev ss : List Transition
  ss = plain_course b.events N

  flat_trees : trees text ≡ book (flat_data (flat_events ss)) None
  flat_trees =
      let last = text_read [] (comment_ending b.fault (flat_summary ss)) (ending_reads b.fault (flat_summary ss) (summary_line ss)) in
      within_limit text l ∙ whole_read (flat_data (flat_events ss)) text (subst (Reads (flat_data (flat_events ss))) (sym w.2) (flat_read (flat_events ss) w.0 (comment_ending b.fault (flat_summary ss)) w.1 last))

  few_bytes : length w.0 < range
  few_bytes = omega (arith, ap length w.2, length-append w.0 (comment_ending b.fault (flat_summary ss)))

  flat_runs : Runs (log_from 1 (initial One) [] (flat_data (flat_events ss))) (initial One) (flat_events ss) (last_theory_from (initial One) (before_switch ss))
  flat_runs = course_runs N 1 1 (initial One) b.events refl (no_more_steps range (flat_events ss) w.0 w.1 few_bytes)

  pub flat_accepted : LogAccepted (map flat_event (flat_events ss)) (last_theory_from (initial One) (before_switch ss)) text
  flat_accepted =
      let runs = subst (λ xs. Runs (log_from 1 (initial One) [] xs) (initial One) (flat_events ss) (last_theory_from (initial One) (before_switch ss))) (sym (ap (λ z. z.events) flat_trees)) flat_runs in
      record { read = ap (λ z. z.fault) flat_trees; each = runs.each; yes = runs.yes; none_left = runs.none_left; theory = runs.theory }
