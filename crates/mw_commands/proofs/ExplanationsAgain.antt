-- What is owed for a book that is explained is the text of a book of the reasons, with comments between.
use Rattle.std.proofs.Common.{◌≡◌, ℕ, suc, ◌+◌, ◌≤◌, cond, Bool, true, false, not, List, [], ◌∷◌, ◌++◌, length, None, codes, refl, sym, ap, ◌∙◌, subst, append_assoc}
use Rattle.mw_model.specs.Terms.Object.{Object}
use Rattle.mw_model.specs.Values.Primitive.{One}
use Rattle.mw_model.specs.Events.Theory.{Theory, initial}
use Rattle.mw_model.specs.Events.Refusal.{Refusal, Fate, Accepted, Refused, reason_of}
use Rattle.mw_model.specs.Events.Fate.{happens}
use Rattle.mw_model.specs.Texts.Grammar.{Book, book, limit, trees}
use Rattle.mw_model.specs.Texts.Printing.{numeral}
use Rattle.mw_model.specs.Reports.Report.{status_of, spaced, word_text, label_text, line, is_accepted, refused_among, report_of}
use Rattle.mw_model.specs.Texts.Written.{IsBookText, datum_line}
use Rattle.mw_model.specs.Texts.Pieces.{InOrder, comment_ending}
use Rattle.mw_commands.specs.Commands.Transition.{Transition, course_from}
use Rattle.mw_commands.specs.Commands.Lowering.{course_summary, refused_in}
use Rattle.mw_commands.specs.Commands.Flattening.{plain_course}
use Rattle.mw_commands.specs.Commands.Explanation.{why}
use Rattle.mw_commands.specs.Commands.ExplanationBook.{OwesWhy, OwesExplained, ExplanationWritten, explanation_status, reasons}
use Rattle.mw_commands.proofs.OneLine.{spaced_line, numeral_line, word_line, label_line, reason_line}
use Rattle.mw_commands.proofs.Comments.{comment_reads, ending_reads}
use Rattle.mw_model.proofs.TextReadBack.{within_limit}
use Rattle.mw_commands.proofs.WrittenRead.{text_is_read}
use Rattle.mw_commands.proofs.LoweringsAgain.{summary_line}

refused_line : (k : ℕ) (e : Object) (r : Refusal) (xs : List Object) (text : List ℕ) → IsBookText xs text → IsBookText xs (codes "; " ++ (line k e (Refused r) ++ text))
refused_line k e r xs text h =
    let reason = spaced (codes "refused") (reason_of r) in
    let label = spaced (label_text e) reason in
    let word = spaced (word_text e) label in
    comment_reads xs (spaced (numeral k) word) text (spaced_line (numeral k) word (numeral_line k) (spaced_line (word_text e) label (word_line e) (spaced_line (label_text e) reason (label_line e) (spaced_line (codes "refused") (reason_of r) refl (reason_line r))))) h

piece_reads : (N : ℕ) (s : Transition) (ss : List Transition) (f : Fate) (piece text : List ℕ) → OwesWhy N s f piece → IsBookText (reasons N ss) text → IsBookText (elim f [ Accepted value ↦ reasons N ss | Refused r ↦ why s.number r s.before N s.event ∷ reasons N ss ]) (piece ++ text)
piece_reads N s ss (Accepted value) piece text w h = subst (λ z. IsBookText (reasons N ss) (z ++ text)) (sym w) h
piece_reads N s ss (Refused r) piece text w h =
    let x = why s.number r s.before N s.event in
    let l = line s.number s.event (Refused r) in
    subst (λ z. IsBookText (x ∷ reasons N ss) (z ++ text)) (sym w.2)
    (subst (λ z. IsBookText (x ∷ reasons N ss) (codes "; " ++ z)) (sym (append_assoc l w.0 text)) (refused_line s.number s.event r (x ∷ reasons N ss) (w.0 ++ text) (datum_line x (reasons N ss) w.0 text w.1 h)))

pieces_read : (N : ℕ) (ss : List Transition) (body last : List ℕ) → InOrder (OwesExplained N) ss body → IsBookText [] last → IsBookText (reasons N ss) (body ++ last)
pieces_read N [] body last w r = subst (λ z. IsBookText [] (z ++ last)) (sym w) r
pieces_read N (s ∷ ss) body last w r =
    let is : w.0 ++ (w.1 ++ last) ≡ body ++ last = sym (append_assoc w.0 w.1 last) ∙ ap (λ z. z ++ last) (sym w.2) in
    subst (IsBookText (reasons N (s ∷ ss))) is (piece_reads N s ss s.fate w.0 (w.1 ++ last) w.3 (pieces_read N ss w.1 last w.4 r))

pub explanation_is_read : (b : Book) (N : ℕ) (text : List ℕ) → ExplanationWritten b N text → length text ≤ limit → trees text ≡ book (reasons N (plain_course b.events N)) None
explanation_is_read b N text w h =
    let ss = plain_course b.events N in
    let reads : IsBookText (reasons N ss) text = subst (IsBookText (reasons N ss)) (sym w.2) (pieces_read N ss w.0 (comment_ending b.fault (course_summary ss)) w.1 (ending_reads b.fault (course_summary ss) (summary_line N ss))) in
    within_limit text h ∙ text_is_read (reasons N ss) text reads

-- as many are refused as in the report
as_many : (N k : ℕ) (t : Theory) (es : List Object) → refused_in (course_from (λ u e. happens u N e) k t es) ≡ refused_among t es N
as_many N k t [] = refl
as_many N k t (e ∷ es) = one (is_accepted (happens t N e).0) _ _ (as_many N (suc k) (happens t N e).1 es)
  where
    one : (b : Bool) (m n : ℕ) → m ≡ n → cond (not b) 1 0 + m ≡ cond b 0 1 + n
    one true m n h = ap (λ z. 0 + z) h
    one false m n h = ap (λ z. 1 + z) h

pub status_of_check : (b : Book) (N : ℕ) → explanation_status b N ≡ (report_of b N).status
status_of_check b N = ap (status_of b.fault) (as_many N 1 (initial One) b.events)
