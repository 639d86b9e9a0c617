-- What may be written of a slice, and how a slice ends.
use Rattle.std.proofs.Common.{◌≡◌, ℕ, ◌≤◌, cond, List, [], ◌∷◌, ◌++◌, length, map, Option, Some, None, codes, refl, is_some}
use Rattle.mw_model.specs.Terms.Object.{Name, Object}
use Rattle.mw_model.specs.Texts.Lexemes.{Fault}
use Rattle.mw_model.specs.Texts.Grammar.{Book, limit}
use Rattle.mw_model.specs.Texts.Printing.{numeral}
use Rattle.mw_model.specs.Reports.Report.{Done, spaced, status_of}
use Rattle.mw_model.specs.Texts.Written.{IsDatumLine}
use Rattle.mw_model.specs.Texts.Pieces.{InOrder, comment, comment_ending}
use Rattle.mw_commands.specs.Commands.Slice.{event_at, target, IsSlice}
use Rattle.mw_commands.specs.Commands.Slicing.{accepted_events, of_events, SliceOwed, SliceWritten, slicing_status, status_for}
use Rattle.mw_commands.specs.Headlines.{SliceAccepted}
use Rattle.mw_answers.proofs.Pieces.{LabelledTexts, may_be_written}

-- that a slice is accepted when it is read again
abbrev pub SlicesAgain : Type 0
SlicesAgain = (b : Book) (N : ℕ) (name : Name) (text : List ℕ) → SliceWritten b N name text → slicing_status b N name ≡ Done → length text ≤ limit → (goal : ℕ) → target (accepted_events b.events N) name ≡ Some goal → SliceAccepted (accepted_events b.events N) goal N text

-- that each theorem has a slice
abbrev pub HasSlices : Type 0
HasSlices = (es : List Object) (goal : ℕ) → (places : List ℕ) × IsSlice es goal places

-- one theorem at most is missing
pub sliced_status : (f : Option Fault) (goal : Option ℕ) → status_of f (cond (is_some goal) 0 1) ≡ status_for f goal
sliced_status (Some f) goal = refl
sliced_status None (Some g) = refl
sliced_status None None = refl

all_written : LabelledTexts → (xs : List Object) → (text : List ℕ) × InOrder IsDatumLine xs text
all_written labelled [] = ([], refl)
all_written labelled (x ∷ xs) =
    let w = may_be_written labelled x in
    let r = all_written labelled xs in
    ((w.0 ++ 10 ∷ []) ++ r.0, (w.0 ++ 10 ∷ [], r.0, refl, (w.0, w.1, w.2, refl), r.1))

pub some_slice : LabelledTexts → HasSlices → (f : Option Fault) (goal : Option ℕ) (es accepted : List Object) → (text : List ℕ) × SliceOwed f goal es accepted text
some_slice labelled has (Some f) goal es accepted = (comment_ending (Some f) [], refl)
some_slice labelled has None None es accepted = (comment (spaced (codes "none of") (numeral (length es))), refl)
some_slice labelled has None (Some goal) es accepted =
    let s = has accepted goal in
    let kept = map (event_at accepted) s.0 in
    let w = all_written labelled kept in
    (w.0 ++ comment (spaced (codes "kept") (of_events (length kept) es)), (kept, w.0, (s.0, s.1, refl), w.1, refl))
