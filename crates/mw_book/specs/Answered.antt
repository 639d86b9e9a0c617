-- Where the proving of formulas stands.
use Rattle.std.specs.Prelude.{◌≡◌, ℕ, ◌≤◌, not, List, length, Option}
use Rattle.mw_model.specs.Terms.Object.{Object}
use Rattle.mw_model.specs.Reports.Report.{word_text}
use Rattle.mw_model.specs.Reports.Request.{Request, Taut}
use Rattle.mw_model.specs.Texts.Pieces.{how_many}
use Rattle.mw_commands.specs.Commands.TautologyBook.{initial_arities, is_proved}
use Rattle.mw_heap.specs.Contents.{Contents}
use Rattle.mw_read.specs.Shown.{IsShown, shown_text}
use Rattle.std.proofs.Common.{arith}
use Rattle.mw_heap.specs.Objects.{Grows}
use Rattle.mw_heap.proofs.Objects.{length-Grows}
use Rattle.mw_term.proofs.CallerLemmas.{AreMarks-grows}
use Rattle.mw_term.specs.Marking.{AreMarks}
use Rattle.mw_answers.specs.Answering.{AnsweredBy}
use Rattle.mw_book.specs.declared.taut.Proving.{Proving}

-- the reference is shown as the first member of the datum
abbrev pub ShowsWord : List Object → Option ℕ → Object → Type 0
ShowsWord os word x = IsShown os word × (shown_text os word ≡ word_text x)

-- The heap has what is kept of it, and the numbers can be those of some data.
pub record IsProving (p : Proving) (h : Contents) : Type 0 where
  pub kept : p.kept ≤ length h.objects
  pub arity : p.arity ≡ initial_arities
  pub marked : AreMarks p.arity h.objects p.marks
  pub few : p.unproved ≤ p.formulas

-- These data were answered: the numbers count them.
pub record Answered (p : Proving) (given : List Object) : Type 0 where
  pub counted : p.formulas ≡ length given
  pub unproved_counted : p.unproved ≡ how_many (λ x. not (is_proved x)) given

-- the request is to prove the formulas, and these data were answered
abbrev pub ProvedFor : Proving → Contents → Request → List Object → Type 0
ProvedFor p h = AnsweredBy {P = Unit {0}} (λ u. Taut) (λ u given. IsProving p h × Answered p given)

-- more was made
pub proved_still : (p : Proving) (old new : Contents) → Grows old.objects new.objects → (q : Request) (given : List Object) →
    ProvedFor p old q given → ProvedFor p new q given
proved_still p old new g q given h =
    let k = h.2.0 in
    let kept : p.kept ≤ length new.objects = (let n = length-Grows old.objects new.objects g in let b = k.kept in omega (arith, b, n)) in
    let marked = AreMarks-grows p.arity old.objects new.objects p.marks g k.marked in
    (h.0, h.1, (record { kept = kept; arity = k.arity; marked = marked; few = k.few }, h.2.1))
