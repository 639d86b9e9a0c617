-- What is owed for a theorem of a book is the text of a book whose events are all accepted, the last being the theorem.
use Rattle.std.proofs.Common.{◌≡◌, ℕ, ◌<◌, ◌≤◌, true, ◌&&◌, List, [], ◌∷◌, ◌++◌, length, Option, Some, None, codes, refl, sym, ap, ◌∙◌, subst, append_assoc}
use Rattle.std.proofs.lemmas.Bool.{and_parts}
use Rattle.mw_model.specs.Terms.Object.{Name, Object, Symbol, same_object, second_of}
use Rattle.mw_model.specs.Values.Primitive.{One}
use Rattle.mw_model.specs.Events.Theory.{initial}
use Rattle.mw_model.specs.Texts.Lexemes.{Fault}
use Rattle.mw_model.specs.Texts.Grammar.{Book, book, limit, trees}
use Rattle.mw_model.specs.Texts.Printing.{numeral}
use Rattle.mw_model.specs.Reports.Report.{Done, status_of, spaced, report_of, accepted_among}
use Rattle.mw_model.specs.Texts.Written.{IsDatumLine, IsBookText, datum_line}
use Rattle.mw_model.specs.Texts.Pieces.{InOrder, comment}
use Rattle.mw_model.proofs.TextReadBack.{within_limit}
use Rattle.mw_commands.specs.Commands.Slice.{begins_with, event_at, target}
use Rattle.mw_commands.specs.Commands.Slicing.{accepted_events, of_events, AreKept, SliceOwed, SliceWritten, slicing_status, status_for}
use Rattle.mw_commands.specs.Headlines.{AcceptsAll, SliceAccepted}
use Rattle.mw_commands.proofs.LexingLines.{no_newline}
use Rattle.mw_commands.proofs.OneLine.{spaced_line, numeral_line}
use Rattle.mw_commands.proofs.Comments.{last_comment}
use Rattle.mw_commands.proofs.WrittenRead.{text_is_read}
use Rattle.mw_commands.proofs.AllAccepted.{AllAccepted, alone_accepted, all_counted, none_refused}
use Rattle.mw_commands.proofs.ChosenPlaces.{ends_with}
use Rattle.mw_commands.proofs.SliceKept.{place_of, places_bounded, goal_kept, slice_accepted}

-- ---- the text

kept_line : (k : ℕ) (es : List Object) → no_newline (spaced (codes "kept") (of_events k es)) ≡ true
kept_line k es =
    let total = spaced (codes "of") (numeral (length es)) in
    spaced_line (codes "kept") (spaced (numeral k) total) refl (spaced_line (numeral k) total (numeral_line k) (spaced_line (codes "of") (numeral (length es)) refl (numeral_line (length es))))

lines_before : (xs : List Object) (body last : List ℕ) → InOrder IsDatumLine xs body → IsBookText [] last → IsBookText xs (body ++ last)
lines_before [] body last w r = subst (λ z. IsBookText [] (z ++ last)) (sym w) r
lines_before (x ∷ xs) body last w r =
    let is : w.0 ++ (w.1 ++ last) ≡ body ++ last = sym (append_assoc w.0 w.1 last) ∙ ap (λ z. z ++ last) (sym w.2) in
    subst (IsBookText (x ∷ xs)) is (datum_line x xs w.0 (w.1 ++ last) w.3 (lines_before xs w.1 last w.4 r))

-- ---- the slice of these accepted events

module _ (N : ℕ) (events es : List Object) (goal : ℕ) (text : List ℕ) (accepted : AllAccepted N (initial One) es) (inside : goal < length es) (verifies : begins_with "VERIFY" (event_at es goal) ≡ true) (w : SliceOwed None (Some goal) events es text) (l : length text ≤ limit) where
  kept_accepted : AllAccepted N (initial One) w.0
  kept_accepted = subst (AllAccepted N (initial One)) (sym w.2.2) (slice_accepted es goal verifies w.2.0 w.2.1 N inside accepted)

  text_read : trees text ≡ book w.0 None
  text_read =
      let last = comment (spaced (codes "kept") (of_events (length w.0) events)) in
      within_limit text l ∙ text_is_read w.0 text (subst (IsBookText w.0) (sym w.4) (lines_before w.0 w.1 last w.3 (last_comment (spaced (codes "kept") (of_events (length w.0) events)) (kept_line (length w.0) events))))

  accepts_all : AcceptsAll text N (length w.0)
  accepts_all =
      record {
        ends = ap (λ z. (report_of z N).status) text_read ∙ ap (status_of None) (none_refused N (initial One) w.0 kept_accepted);
        accepted = ap (λ z. accepted_among (initial One) z.events N) text_read ∙ all_counted N (initial One) w.0 kept_accepted;
      }

  slice_read : SliceAccepted es goal N text
  slice_read =
      let slice = w.2.1 in
      let e = ends_with es goal w.2.0 slice.ascending (goal_kept es goal verifies w.2.0 slice) (places_bounded es goal verifies w.2.0 slice) in
      let is : w.0 ≡ e.earlier ++ event_at es goal ∷ [] = w.2.2 ∙ e.is in
      record { earlier = e.earlier; kept = subst (AreKept es goal) is w.2; read = text_read ∙ ap (λ z. book z None) is; again = subst (AcceptsAll text N) (ap length is) accepts_all }

-- a book with a fault has another status
no_fault : (o : Option Fault) (goal : ℕ) (events es : List Object) (text : List ℕ) → status_for o (Some goal) ≡ Done → SliceOwed o (Some goal) events es text → SliceOwed None (Some goal) events es text
no_fault None goal events es text d w = w
no_fault (Some f) goal events es text d w = cc

pub slice_again : (b : Book) (N : ℕ) (name : Name) (text : List ℕ) → SliceWritten b N name text → slicing_status b N name ≡ Done → length text ≤ limit → (goal : ℕ) → target (accepted_events b.events N) name ≡ Some goal → SliceAccepted (accepted_events b.events N) goal N text
slice_again b N name text w d l goal g =
    let es = accepted_events b.events N in
    let p = place_of (λ e. begins_with "VERIFY" e && same_object (second_of e) (Symbol name)) es goal g in
    let verifies = (and_parts (begins_with "VERIFY" (event_at es goal)) (same_object (second_of (event_at es goal)) (Symbol name)) p.passes).0 in
    slice_read N b.events es goal text (alone_accepted N 1 (initial One) b.events) p.inside verifies
    (no_fault b.fault goal b.events es text (ap (status_for b.fault) (sym g) ∙ d) (subst (λ o. SliceOwed b.fault o b.events es text) g w)) l
