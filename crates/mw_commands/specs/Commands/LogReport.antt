-- The report on a log.
use Rattle.std.specs.Prelude.{ℕ, suc, ◌+◌, Bool, true, false, not, List, [], ◌∷◌, ◌++◌, length, codes}
use Rattle.mw_model.specs.Terms.Object.{Object}
use Rattle.mw_model.specs.Values.Primitive.{One}
use Rattle.mw_model.specs.Events.Theory.{Theory, initial}
use Rattle.mw_model.specs.Texts.Grammar.{Book, trees}
use Rattle.mw_model.specs.Texts.Printing.{numeral}
use Rattle.mw_model.specs.Reports.Report.{status_of, spaced, word_text, label_text, Report}
use Rattle.mw_model.specs.Texts.Pieces.{how_many, ending}
use Rattle.mw_commands.specs.Commands.Log.{Answer, Yes, No, objection_word, logged, is_step}

-- event number k of a log, the theory that it meets, the steps that belong to it, and the answer to it with the theory from then on
pub record Entered : Type 0 where
  pub number : ℕ
  pub before : Theory
  pub steps : List Object
  pub event : Object
  pub answer : Answer
  pub next : Theory

-- the events of a log and the steps that are left over, where the first of the data belongs to these steps, or is event number k
pub record Log : Type 0 where
  pub entered : List Entered
  pub left : List Object

abbrev pub with_event : ℕ → Theory → List Object → Object → Answer × Theory → Log → Log
with_event k t steps e a log = record { entered = record { number = k; before = t; steps = steps; event = e; answer = a.0; next = a.1 } ∷ log.entered; left = log.left }

abbrev pub log_from : ℕ → Theory → List Object → List Object → Log
log_from k t steps [] = record { entered = []; left = steps }
log_from k t steps (x ∷ xs) =
    elim (is_step x) [ true ↦ log_from k t (steps ++ x ∷ []) xs | false ↦ let a = logged t steps x in with_event k t steps x a (log_from (suc k) a.1 [] xs) ]

abbrev pub log_of : List Object → Log
log_of xs = log_from 1 (initial One) [] xs

abbrev pub theory_after : Theory → List Entered → Theory
theory_after t [] = t
theory_after t (s ∷ r) = theory_after s.next r

abbrev pub last_logged : Log → Theory
last_logged log = theory_after (initial One) log.entered

abbrev pub answer_text : Answer → List ℕ
answer_text Yes = codes "yes"
answer_text (No o) = spaced (codes "no") (objection_word o)

abbrev pub log_lines : List Entered → List ℕ
log_lines [] = []
log_lines (s ∷ r) = spaced (numeral s.number) (spaced (word_text s.event) (spaced (label_text s.event) (answer_text s.answer))) ++ 10 ∷ log_lines r

abbrev pub is_yes : Entered → Bool
is_yes s = elim s.answer [ Yes ↦ true | No o ↦ false ]

-- how many events got a no
abbrev pub denied : Log → ℕ
denied log = how_many (λ s. not (is_yes s)) log.entered

-- events E yes Y no R left S
abbrev pub log_summary : Log → List ℕ
log_summary log =
    spaced (codes "events") (spaced (numeral (length log.entered)) (spaced (codes "yes") (spaced (numeral (how_many is_yes log.entered)) (spaced (codes "no") (spaced (numeral (denied log)) (spaced (codes "left") (numeral (length log.left))))))))

abbrev pub log_report_of : Book → Report
log_report_of b = let log = log_of b.events in record { text = log_lines log.entered ++ ending b.fault (log_summary log); status = status_of b.fault (denied log + length log.left) }

abbrev pub log_report : List ℕ → Report
log_report bytes = log_report_of (trees bytes)
